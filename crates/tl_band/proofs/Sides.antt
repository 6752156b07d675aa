-- Edges of a band before and after a call.
use Rattle.std.proofs.Common.{◌≡◌, ℕ, suc, ◌+◌, ◌≤◌, ◌⊎◌, inl, inr, Bool, refl, sym, ◌∙◌, ap, subst, arith, Option, Some, None}
use Rattle.std.specs.Prelude.{slice_get}
use Rattle.std.proofs.lemmas.Option.{same_Some}
use Rattle.tl_definitions.specs.Region.{Region}
use Rattle.tl_border.specs.declared.row.Row.{Row}
use Rattle.tl_border.specs.Rows.{bits_of_row, other, rows_of}
use Rattle.tl_border.specs.Ends.{EndView, IsNextToSend}
use Rattle.tl_packed.specs.declared.strings.Strings.{Strings}
use Rattle.tl_packed.specs.OfClasses.{of_class}
use Rattle.tl_courses.specs.Courses.{Course, IsCourseOf, class_at, steps_of}
use Rattle.tl_band.specs.declared.edge.Edge.{Edge}
use Rattle.tl_band.specs.declared.edge.Link.{Link}
use Rattle.tl_band.specs.Edges.{AreLinked, AreOfSize, IsEdgeAt, IsFree, IsFreeAt, IsLinkAt, IsOffered, IsReadyToSend, IsRowAfter, IsServed, IsSideAt, received_of, waiting}
use Rattle.tl_band.specs.Handed.{row_at}
use Rattle.tl_band.proofs.Entries.{entry-at}
use Rattle.tl_band.proofs.Rows.{row-to_send}

-- ---- sending

-- the row that waits is the next one
next-sent : (c : Course) (own beside done : ℕ) (k : Link) → done ≤ steps_of c → IsLinkAt c own beside done k → (row : Row) → k.unsent ≡ Some row → IsNextToSend k.end row
next-sent c own beside done k within at row is =
    let one : k.end.sent + 1 ≡ done = sym (ap (λ o. k.end.sent + waiting o) is) ∙ at.sent in
    ap (λ rows. slice_get rows k.end.sent) at.sends
    ∙ (entry-at c own k.end.sent (omega (arith, one, within)) ∙ ap (λ b. Some b) (sym (at.unsent row is)))

pub ready-to_send : (c : Course) (done : ℕ) (e : Edge) → done ≤ steps_of c → IsEdgeAt c done e → IsReadyToSend e
ready-to_send c done e within at k row linked is = next-sent c e.own e.beside done k within (subst (λ o. IsSideAt c e.own e.beside done o) linked at) row is

link-served : (c : Course) (own beside done : ℕ) (old new : Link) → IsServed old new → IsLinkAt c own beside done old → IsLinkAt c own beside done new
link-served c own beside done old new served at = record {
  sends = (λ i. rows_of (served.job i) (served.side i)) ∙ at.sends;
  gets = (λ i. rows_of (served.job i) (other (served.side i))) ∙ at.gets;
  sent = served.sent ∙ at.sent;
  unsent = λ row is. let (was, same) = served.unsent row is in at.unsent row was ∙ ap (row_at c own) (sym same);
  counted = served.received ∙ (at.counted ∙ sym served.counted);
  not_ahead = omega (arith, served.counted, at.not_ahead);
  near = omega (arith, served.counted, at.near);
  spare = subst (λ spare. AreOfSize c.layout.strips spare.items) (sym served.spare) at.spare;
}

pub side-served : (c : Course) (own beside done : ℕ) (old new : Option Link) → AreLinked IsServed old new → IsSideAt c own beside done old
    → IsSideAt c own beside done new × (received_of new done ≡ received_of old done)
side-served c own beside done None new none at = (subst (λ o. IsSideAt c own beside done o) (sym none) at, ap (λ o. received_of o done) none)
side-served c own beside done (Some k) None linked at = absurd linked
side-served c own beside done (Some k) (Some j) served at = (link-served c own beside done k j served at, served.counted)

-- ---- a class more

pub spare-of : (c : Course) (own beside done : ℕ) (o : Option Link) → IsSideAt c own beside done o → AreLinked (λ old new. AreOfSize c.layout.strips old.spare.items) o o
spare-of c own beside done None at = refl
spare-of c own beside done (Some k) at = at.spare

module _ (R : Region) (bits : ℕ → ℕ → Bool) (c : Course) (is : IsCourseOf R bits c) (own beside done : ℕ) (strings : Strings) (now : IsRowAfter c (suc done) own strings) where
  link-offered : (old new : Link) → IsFree old → old.received ≡ done → IsOffered c.layout own (of_class strings (class_at c.layout.kind done)) old new → IsLinkAt c own beside done old
      → IsLinkAt c own beside (suc done) new
  link-offered old new free came offered at = record {
    sends = (λ i. rows_of (job i) (side i)) ∙ at.sends;
    gets = (λ i. rows_of (job i) (other (side i))) ∙ at.gets;
    sent = ap (λ o. new.end.sent + waiting o) offered.unsent ∙ one_more;
    unsent = λ row is_row. told row is_row ∙ ap (row_at c own) (sym all_sent);
    counted = ap (λ (e : EndView). e.received) offered.end ∙ (at.counted ∙ sym offered.counted);
    not_ahead = omega (arith, offered.counted, came);
    near = omega (arith, offered.counted, came);
    spare = offered.spare;
  }
    where
      job : new.end.job ≡ old.end.job
      job = ap (λ (e : EndView). e.job) offered.end

      side : new.end.side ≡ old.end.side
      side = ap (λ (e : EndView). e.side) offered.end

      all_sent : new.end.sent ≡ done
      all_sent =
          let before : old.end.sent + 0 ≡ done = sym (ap (λ o. old.end.sent + waiting o) free.unsent) ∙ at.sent in
          ap (λ (e : EndView). e.sent) offered.end ∙ omega (arith, before)

      one_more : new.end.sent + 1 ≡ suc done
      one_more = omega (arith, all_sent)

      told : (row : Row) → new.unsent ≡ Some row → bits_of_row row ≡ row_at c own done
      told row is_row =
          let same = same_Some offered.row row (sym offered.unsent ∙ is_row) in
          row-to_send R bits c is own done strings offered.row.words.items row (ap (λ (r : Row). r.words.items) (sym same)) offered.size offered.words now

  pub side-offered : (old new : Option Link) → IsFreeAt done old → AreLinked (IsOffered c.layout own (of_class strings (class_at c.layout.kind done))) old new
      → IsSideAt c own beside done old → IsSideAt c own beside (suc done) new
  side-offered None new free none at = subst (λ o. IsSideAt c own beside (suc done) o) (sym none) at
  side-offered (Some k) None free linked at = absurd linked
  side-offered (Some k) (Some j) (came, free) offered at = link-offered k j free came offered at

  pub arrived-offered : (old new : Option Link) → AreLinked (IsOffered c.layout own (of_class strings (class_at c.layout.kind done))) old new → IsFreeAt done old
      → ((new ≡ None) × (old ≡ None)) ⊎ (received_of new (suc done) ≡ done)
  arrived-offered None new none free = inl (none, refl)
  arrived-offered (Some k) None linked free = absurd linked
  arrived-offered (Some k) (Some j) offered (came, free) = inr (offered.counted ∙ came)
