-- Steps, and paths that are made longer at either end.
use Rattle.std.proofs.Common.{◌≡◌, ℕ, ◌<◌, true, List, [], ◌∷◌, ◌++◌, length, refl, sym, subst, arith, ℤ, pos, ◌+ℤ◌}
use Rattle.std.specs.Prelude.{◌==◌, IsTrue}
use Rattle.std.proofs.lemmas.Bool.{eqb-true, eq-eqb, and_from, and_parts}
use Rattle.std.proofs.lemmas.Int.{ints}
use Rattle.std.proofs.lemmas.List.{length_push}
use Rattle.std.proofs.lemmas.Option.{same_Some, slice_get_within}
use Rattle.tl_lists.specs.Lists.{linked}
use Rattle.tl_lists.proofs.Members.{In, any-In, In-any_of}
use Rattle.tl_search.specs.declared.spreading.Source.{Source}
use Rattle.tl_search.specs.Graphs.{has_step, Leads}
use Rattle.tl_search.specs.Spreading.{Reaches}

pub has_step-In : (steps : ℕ → List ℕ) (u v : ℕ) → IsTrue (has_step steps u v) → In v (steps u)
has_step-In steps u v e = let (x, i, q) = any-In (λ w. w == v) (steps u) e in subst (λ y. In y (steps u)) (eqb-true x v q) i

pub In-has_step : (steps : ℕ → List ℕ) (u v : ℕ) → In v (steps u) → IsTrue (has_step steps u v)
In-has_step steps u v i = In-any_of (λ w. w == v) v (steps u) i (eq-eqb v v refl)

pub Leads-one : (steps : ℕ → List ℕ) (v : ℕ) → Leads steps v v (v ∷ [])
Leads-one steps v = record { begins = refl; ends = refl; directed = refl }

pub Leads-cons : (steps : ℕ → List ℕ) (u v w : ℕ) (path : List ℕ) → IsTrue (has_step steps u v) → Leads steps v w path → Leads steps u w (u ∷ path)
Leads-cons steps u v w [] e h = cc h.begins
Leads-cons steps u v w (x ∷ path) e h = record {
  begins = refl;
  ends = h.ends;
  directed = and_from (has_step steps u x) (linked (has_step steps) (x ∷ path)) (subst (λ y. has_step steps u y ≡ true) (sym (same_Some x v h.begins)) e) h.directed;
}

pub Leads-push : (steps : ℕ → List ℕ) (u v w : ℕ) (path : List ℕ) → Leads steps u v path → IsTrue (has_step steps v w) → Leads steps u w (path ++ w ∷ [])
Leads-push steps u v w [] h e = cc h.begins
Leads-push steps u v w (x ∷ []) h e = record {
  begins = h.begins;
  ends = refl;
  directed = and_from (has_step steps x w) true (subst (λ y. has_step steps y w ≡ true) (sym (same_Some x v h.ends)) e) refl;
}
Leads-push steps u v w (x ∷ y ∷ path) h e =
    let p : (has_step steps x y ≡ true) × (linked (has_step steps) (y ∷ path) ≡ true) = and_parts _ _ h.directed in
    let rest : Leads steps y w (y ∷ path ++ w ∷ []) = Leads-push steps y v w (y ∷ path) (record { begins = refl; ends = h.ends; directed = p.1 }) e in
    record { begins = h.begins; ends = rest.ends; directed = and_from (has_step steps x y) (linked (has_step steps) (y ∷ path ++ w ∷ [])) p.0 rest.directed }

-- a step more is 1 more
pub Reaches-step : (steps : ℕ → List ℕ) (sources : List Source) (u v : ℕ) (z : ℤ) → Reaches steps sources u z → IsTrue (has_step steps u v) → Reaches steps sources v (z +ℤ pos 1)
Reaches-step steps sources u v z r e =
    let some : 0 < length r.path = slice_get_within r.path 0 r.source.place r.leads.begins in
    record {
      i = r.i;
      source = r.source;
      is_source = r.is_source;
      path = r.path ++ v ∷ [];
      leads = Leads-push steps r.source.place u v r.path r.leads e;
      adds = omega (arith, ints, r.adds, some, length_push r.path v);
    }
