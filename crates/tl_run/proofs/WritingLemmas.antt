-- From what is written to what a run writes.
use Rattle.std.proofs.Common.{◌≡◌, inl, inr, ℕ, Bool, true, false, List, [], ◌++◌, Option, refl, sym, ◌∙◌, ap, subst, append_assoc}
use Rattle.std.specs.Io.KnownBytes.{append_known}
use Rattle.tl_io.specs.Counts.{Rose}
use Rattle.tl_io.specs.States.{SinkState}
use Rattle.tl_io.proofs.Known.{append_known-nil, append_known-append}
use Rattle.tl_run.specs.Answers.{Answer, answer, Allows, Is, is_whole}
use Rattle.tl_run.specs.Writing.{Appends, Begins, Cuts, Writing}

pub Begins-weaker : (P Q : Allows) (out : List ℕ) → ((a : Answer) → P a → Q a) → Begins P out → Begins Q out
Begins-weaker P Q out f (a, p, r) = (a, f a p, r)

-- more answers are allowed, and silence is owed no longer
pub Writing-weaker : (P Q : Allows) (silent : Bool) (sink sink' : SinkState) (status : ℕ) → ((a : Answer) → P a → Q a)
    → Writing P true sink sink' status → Writing Q silent sink sink' status
Writing-weaker P Q silent sink sink' status f w = record {
  out = w.out;
  held = w.held;
  whole = λ h. f (answer w.out status) (w.whole h);
  steady = w.steady;
  cut = λ e. Begins-weaker P Q w.out f (w.cut e);
  failed = w.failed;
  stopped = λ e. inl (w.silence e refl);
  silence = λ e h. w.silence e refl;
}

pub Writing-is : (a b : Answer) (silent : Bool) (sink sink' : SinkState) (status : ℕ) → a ≡ b → Writing (Is a) silent sink sink' status
    → Writing (Is b) silent sink sink' status
Writing-is a b silent sink sink' status e w = subst (λ (d : Answer). Writing (Is d) silent sink sink' status) e w

-- ---- one more write

pub Appends-nothing : (sink : SinkState) → Appends [] sink sink
Appends-nothing sink = record { held = sym (append_known-nil sink.held); steady = refl }

pub Appends-more : (out more : List ℕ) (sink mid sink' : SinkState) → Appends out sink mid → Appends more mid sink' → Appends (out ++ more) sink sink'
Appends-more out more sink mid sink' first second = record {
  held = second.held ∙ (ap (λ (o : Option (List ℕ)). append_known o more) first.held ∙ append_known-append sink.held out more);
  steady = second.steady ∙ first.steady;
}

-- all of it was written
pub Writing-whole : (P : Allows) (silent : Bool) (out : List ℕ) (sink sink' : SinkState) (status : ℕ) → Appends out sink sink' → is_whole status ≡ true
    → P (answer out status) → Writing P silent sink sink' status
Writing-whole P silent out sink sink' status written whole p = record {
  out = out;
  held = written.held;
  whole = λ h. p;
  steady = λ h. written.steady;
  cut = λ e. cc (whole, ap is_whole e);
  failed = λ e. cc (whole, ap is_whole e);
  stopped = λ e. cc (whole, ap is_whole e);
  silence = λ e h. cc (whole, ap is_whole e);
}

-- a write failed after all before it
pub Cuts-second : (out more : List ℕ) (sink mid sink' : SinkState) → Appends out sink mid → Cuts more mid sink' → Cuts (out ++ more) sink sink'
Cuts-second out more sink mid sink' written c =
    let (tail, whole) = c.part.is_prefix in
    record {
      part = record {
        part = out ++ c.part.part;
        is_prefix = (tail, append_assoc out c.part.part tail ∙ ap (λ (l : List ℕ). out ++ l) whole);
        appended = c.part.appended ∙ (ap (λ (o : Option (List ℕ)). append_known o c.part.part) written.held ∙ append_known-append sink.held out c.part.part);
      };
      rose = subst (λ (n : ℕ). Rose n sink'.faults) written.steady c.rose;
    }

-- a write failed, and what was to be written goes on as an allowed text does
pub Writing-cut : (P : Allows) (silent : Bool) (bytes : List ℕ) (sink sink' : SinkState) → Cuts bytes sink sink' → Begins P bytes → Writing P silent sink sink' 5
Writing-cut P silent bytes sink sink' c (a, p, (rest, is)) =
    let (tail, whole) = c.part.is_prefix in
    record {
      out = c.part.part;
      held = c.part.appended;
      whole = λ h. cc h;
      steady = λ h. cc h;
      cut = λ e. (a, p, (tail ++ rest, sym (append_assoc c.part.part tail rest) ∙ ap (λ (l : List ℕ). l ++ rest) whole ∙ is));
      failed = λ e. c.rose;
      stopped = λ e. cc e;
      silence = λ e. cc e;
    }

-- memory was wanted after an allowed text was begun
pub Writing-stopped : (P : Allows) (out : List ℕ) (sink sink' : SinkState) → Appends out sink sink' → Begins P out → Writing P false sink sink' 6
Writing-stopped P out sink sink' written begun = record {
  out = out;
  held = written.held;
  whole = λ h. cc h;
  steady = λ h. cc h;
  cut = λ e. cc e;
  failed = λ e. cc e;
  stopped = λ e. inr begun;
  silence = λ e h. cc h;
}

-- memory was wanted before anything was written
pub Writing-silent : (P : Allows) (sink : SinkState) → Writing P true sink sink 6
Writing-silent P sink = record {
  out = [];
  held = sym (append_known-nil sink.held);
  whole = λ h. cc h;
  steady = λ h. refl;
  cut = λ e. cc e;
  failed = λ e. cc e;
  stopped = λ e. inl refl;
  silence = λ e h. refl;
}
