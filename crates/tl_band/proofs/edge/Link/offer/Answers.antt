use Rattle.std.proofs.Common.{◌≡◌, ℕ, List, length, refl, sym, ◌∙◌, ap, subst, Some}
use Rattle.std.specs.Vec.{with_items}
use Rattle.std.proofs.lemmas.List.{with_items_is}
use Rattle.std.proofs.lemmas.List.Elements.{All-pop}
use Rattle.tl_packed.specs.OfClasses.{of_class}
use Rattle.tl_band.specs.Words.{AreWordsOf}
use Rattle.tl_band.proofs.edge.Link.offer.Goals as goal

pub returns : goal.returns
returns c =
    let (rest, size) = All-pop (λ row. length row.words.items ≡ c.args.layout.now.strips) _ _ (Some c.in-Some.row) c.in-Some.ensures.items c.requires.spare in
    let words = c.in-Some.row.words in
    let is : (with_items words c.read_row.new.words).items ≡ c.read_row.new.words =
    with_items_is words c.read_row.new.words (c.read_row.ensures.len ∙ c.deref_mut.ensures.len) in
    record {
      end = refl;
      counted = refl;
      row = record { words = with_items words c.read_row.new.words };
      unsent = refl;
      size = ap (λ (ws : List ℕ). length ws) is ∙ (c.read_row.ensures.len ∙ (c.deref_mut.ensures.len ∙ (words.ok.0 ∙ size)));
      words = subst (λ (ws : List ℕ). AreWordsOf c.args.layout.now c.args.own (of_class c.args.strings.now c.args.class) ws) (sym is) c.read_row.ensures.read;
      spare = rest;
    }
