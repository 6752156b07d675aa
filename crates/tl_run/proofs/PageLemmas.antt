-- From bytes that are gathered to what is written.
use Rattle.std.proofs.Common.{ℕ, List, [], ◌++◌, sym, ◌∙◌, ap, subst, append_assoc, append-nil}
use Rattle.tl_io.specs.States.{SinkState}
use Rattle.tl_run.specs.Pages.{Gathers}
use Rattle.tl_run.specs.Writing.{Appends, Cuts}
use Rattle.tl_run.proofs.WritingLemmas.{Appends-more, Cuts-second}

-- all of it was written
pub Gathers-written : (waiting bytes : List ℕ) (sink mid sink' : SinkState) → Appends waiting sink mid → Appends bytes mid sink' → Gathers waiting bytes [] sink sink'
Gathers-written waiting bytes sink mid sink' first second = record {
  out = waiting ++ bytes;
  in_order = sym (append-nil (waiting ++ bytes));
  written = Appends-more waiting bytes sink mid sink' first second;
}

-- one put after another
pub Gathers-more : (waiting bytes waiting' more waiting'' : List ℕ) (sink mid sink' : SinkState) → Gathers waiting bytes waiting' sink mid
    → Gathers waiting' more waiting'' mid sink' → Gathers waiting (bytes ++ more) waiting'' sink sink'
Gathers-more waiting bytes waiting' more waiting'' sink mid sink' first second = record {
  out = first.out ++ second.out;
  in_order =
      sym (append_assoc waiting bytes more) ∙ ap (λ (l : List ℕ). l ++ more) first.in_order ∙ append_assoc first.out waiting' more
      ∙ ap (λ (l : List ℕ). first.out ++ l) second.in_order ∙ sym (append_assoc first.out second.out waiting'');
  written = Appends-more first.out second.out sink mid sink' first.written second.written;
}

-- a write failed when more bytes were put
pub Cuts-gathered : (waiting bytes waiting' more : List ℕ) (sink mid sink' : SinkState) → Gathers waiting bytes waiting' sink mid
    → Cuts (waiting' ++ more) mid sink' → Cuts (waiting ++ (bytes ++ more)) sink sink'
Cuts-gathered waiting bytes waiting' more sink mid sink' first cut =
    subst (λ (l : List ℕ). Cuts l sink sink')
    (sym (append_assoc first.out waiting' more) ∙ ap (λ (l : List ℕ). l ++ more) (sym first.in_order) ∙ append_assoc waiting bytes more)
    (Cuts-second first.out (waiting' ++ more) sink mid sink' first.written cut)

-- a write failed before more bytes were put
pub Cuts-early : (waiting bytes more : List ℕ) (sink sink' : SinkState) → Cuts (waiting ++ bytes) sink sink' → Cuts (waiting ++ (bytes ++ more)) sink sink'
Cuts-early waiting bytes more sink sink' c =
    let (tail, whole) = c.part.is_prefix in
    record {
      part = record {
        part = c.part.part;
        is_prefix = (
          tail ++ more,
          sym (append_assoc c.part.part tail more) ∙ ap (λ (l : List ℕ). l ++ more) whole ∙ append_assoc waiting bytes more,
        );
        appended = c.part.appended;
      };
      rose = c.rose;
    }
