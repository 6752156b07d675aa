-- Paths in a graph: one more step, and what a function on the places does along a path.
use Rattle.std.proofs.Common.{◌≡◌, ℕ, suc, ◌-◌, ◌≤◌, Bool, true, List, [], ◌∷◌, ◌++◌, length, Some, refl, sym, ap, subst, arith, ℤ, pos, ◌+ℤ◌, ◌*ℤ◌, ◌≤ℤ◌}
use Rattle.std.specs.Prelude.{slice_get, ◌≢◌}
use Rattle.std.specs.List.{last_or}
use Rattle.std.proofs.lemmas.Bool.{and_parts, and_from}
use Rattle.std.proofs.lemmas.Int.{ints}
use Rattle.tl_lists.specs.Lists.{linked}
use Rattle.tl_definitions.specs.declared.Kind.{Kind}
use Rattle.tl_definitions.specs.declared.Kind.TheVariants.{Square, Triangle}
use Rattle.tl_definitions.specs.Lattice.{rise}
use Rattle.tl_search.specs.declared.spreading.Source.{Source}
use Rattle.tl_search.specs.declared.spreading.TheConstants.{UNREACHED}
use Rattle.tl_search.specs.Graphs.{GraphMeaning, has_step, Leads, IsGraph}
use Rattle.tl_search.specs.Spreading.{AreSources, AreLeastNumbers}

-- ---- lists

last-append_some : {A : Type 0} (x : A) (xs : List A) (y : A) → last_or (Some x) (xs ++ y ∷ []) ≡ Some y
last-append_some x [] y = refl
last-append_some x (z ∷ xs) y = last-append_some z xs y

length-append_one : {A : Type 0} (xs : List A) (y : A) → length (xs ++ y ∷ []) ≡ suc (length xs)
length-append_one [] y = refl
length-append_one (x ∷ xs) y = ap suc (length-append_one xs y)

module _ {A : Type 0} (t : A → A → Bool) where
  linked-append_one : (x : A) (xs : List A) (u v : A) → linked t (x ∷ xs) ≡ true → last_or (Some x) xs ≡ Some u → t u v ≡ true
      → linked t (x ∷ xs ++ v ∷ []) ≡ true
  linked-append_one x [] u v l e s = let same : x ≡ u = cc e in and_from (t x v) true (subst (λ (w : A). t w v ≡ true) (sym same) s) refl
  linked-append_one x (y ∷ xs) u v l e s =
      let p = and_parts (t x y) (linked t (y ∷ xs)) l in
      and_from (t x y) (linked t (y ∷ xs ++ v ∷ [])) p.0 (linked-append_one y xs u v p.1 e s)

-- ---- one more step

pub leads-more : (steps : ℕ → List ℕ) (u p q : ℕ) (path : List ℕ) → Leads steps u p path → has_step steps p q ≡ true → Leads steps u q (path ++ q ∷ [])
leads-more steps u p q [] l s = cc l.begins
leads-more steps u p q (x ∷ xs) l s =
    record {
      begins = l.begins;
      ends = last-append_some x xs q;
      directed = linked-append_one (has_step steps) x xs p q l.directed l.ends s;
    }

pub leads-length : (steps : ℕ → List ℕ) (u v : ℕ) (path : List ℕ) → Leads steps u v path → 1 ≤ length path
leads-length steps u v [] l = cc l.begins
leads-length steps u v (x ∷ xs) l = omega arith

-- ---- along a path

module _ (steps : ℕ → List ℕ) where
  abbrev Along : ℕ → ℕ → List ℕ → Type 0
  Along u v xs = (linked (has_step steps) (u ∷ xs) ≡ true) × (last_or (Some u) xs ≡ Some v)

  along-first : (u v w : ℕ) (xs : List ℕ) → Along u v (w ∷ xs) → (has_step steps u w ≡ true) × Along w v xs
  along-first u v w xs a =
      let p = and_parts (has_step steps u w) (linked (has_step steps) (w ∷ xs)) a.0 in
      (p.0, (p.1, a.1))

  along-from : (u v x : ℕ) (xs : List ℕ) → Leads steps u v (x ∷ xs) → Along u v xs
  along-from u v x xs l =
      let same : x ≡ u = cc l.begins in
      subst (λ (y : ℕ). Along y v xs) same (l.directed, l.ends)

  -- what each step hands on
  module _ (P : ℕ → Bool) (hands_on : (p q : ℕ) → has_step steps p q ≡ true → P p ≡ true → P q ≡ true) where
    handed : (u v : ℕ) (xs : List ℕ) → Along u v xs → P u ≡ true → P v ≡ true
    handed u v [] a h = let same : u ≡ v = cc a.1 in subst (λ (y : ℕ). P y ≡ true) same h
    handed u v (w ∷ xs) a h = let p = along-first u v w xs a in handed w v xs p.1 (hands_on u w p.0 h)

    pub handed_on : (u v : ℕ) (path : List ℕ) → Leads steps u v path → P u ≡ true → P v ≡ true
    handed_on u v [] l h = cc l.begins
    handed_on u v (x ∷ xs) l h = handed u v xs (along-from u v x xs l) h

  module _ (f : ℕ → ℤ) where
    module _ (rises : (p q : ℕ) → has_step steps p q ≡ true → f q ≤ℤ (f p +ℤ pos 1)) where
      climbs : (u v : ℕ) (xs : List ℕ) → Along u v xs → f v ≤ℤ (f u +ℤ pos (length xs))
      climbs u v [] a =
          let same : u ≡ v = cc a.1 in
          let here : f v ≡ f u = ap f (sym same) in omega (arith, ints, here)
      climbs u v (w ∷ xs) a =
          let p = along-first u v w xs a in
          let step = rises u w p.0 in
          let rest = climbs w v xs p.1 in
          omega (arith, ints, step, rest)

      pub climbs-along : (u v : ℕ) (path : List ℕ) → Leads steps u v path → f v ≤ℤ (f u +ℤ pos (length path - 1))
      climbs-along u v [] l = cc l.begins
      climbs-along u v (x ∷ xs) l = let h = climbs u v xs (along-from u v x xs l) in omega (arith, ints, h)

    module _ (k : Kind) (turns : (p q : ℕ) → has_step steps p q ≡ true → (m : ℤ) × (f q ≡ (f p +ℤ pos 1) +ℤ (pos (rise k) *ℤ m))) where
      congruent : (u v : ℕ) (xs : List ℕ) → Along u v xs → (m : ℤ) × (f v ≡ (f u +ℤ pos (length xs)) +ℤ (pos (rise k) *ℤ m))
      congruent u v [] a =
          let same : u ≡ v = cc a.1 in
          (pos 0, none k (f u) (f v) (ap f (sym same)))
        where
          none : (k : Kind) (a b : ℤ) → b ≡ a → b ≡ (a +ℤ pos 0) +ℤ (pos (rise k) *ℤ pos 0)
          none Square a b e = omega (arith, ints, e)
          none Triangle a b e = omega (arith, ints, e)
      congruent u v (w ∷ xs) a =
          let p = along-first u v w xs a in
          let (m, step) = turns u w p.0 in
          let (n, rest) = congruent w v xs p.1 in
          (m +ℤ n, join k (f u) (f w) (f v) (length xs) m n step rest)
        where
          join : (k : Kind) (a b d : ℤ) (l : ℕ) (m n : ℤ) → b ≡ (a +ℤ pos 1) +ℤ (pos (rise k) *ℤ m) → d ≡ (b +ℤ pos l) +ℤ (pos (rise k) *ℤ n) → d ≡ (a +ℤ pos (suc l)) +ℤ (pos (rise k) *ℤ (m +ℤ n))
          join Square a b d l m n e f = omega (arith, ints, e, f)
          join Triangle a b d l m n e f = omega (arith, ints, e, f)

      pub congruent-along : (u v : ℕ) (path : List ℕ) → Leads steps u v path → (m : ℤ) × (f v ≡ (f u +ℤ pos (length path - 1)) +ℤ (pos (rise k) *ℤ m))
      congruent-along u v [] l = cc l.begins
      congruent-along u v (x ∷ xs) l =
          let same : length xs ≡ length (x ∷ xs) - 1 = omega arith in
          subst (λ (n : ℕ). (m : ℤ) × (f v ≡ (f u +ℤ pos n) +ℤ (pos (rise k) *ℤ m))) same (congruent u v xs (along-from u v x xs l))

-- ---- numbers that spread

module _ (M : GraphMeaning) (sources : List Source) (numbers : List ℤ) (least : AreLeastNumbers M sources numbers) where
  -- a step from a place with a number leads to one with a number that is greater by no more than 1
  pub next-number : (p q : ℕ) (z : ℤ) → has_step M.steps p q ≡ true → slice_get numbers p ≡ Some z → z ≢ UNREACHED
      → (n : ℤ) × (slice_get numbers q ≡ Some n) × (n ≢ UNREACHED) × (n ≤ℤ (z +ℤ pos 1))
  next-number p q z s e some =
      let r = least.reached p z e some in
      let one_more = length-append_one r.path q in
      let long = leads-length M.steps r.source.place p r.path r.leads in
      let adds = r.adds in
      least.least q (z +ℤ pos 1)
      (record {
        i = r.i;
        source = r.source;
        is_source = r.is_source;
        path = r.path ++ q ∷ [];
        leads = leads-more M.steps r.source.place p q r.path r.leads s;
        adds = omega (arith, ints, adds, one_more, long);
      })

  -- only places have a number
  pub numbered-place : IsGraph M → AreSources M sources → (p : ℕ) (z : ℤ) → slice_get numbers p ≡ Some z → z ≢ UNREACHED → M.is_place p ≡ true
  numbered-place is_graph are p z e some =
      let r = least.reached p z e some in
      let begins = are.places r.i r.source r.is_source in
      handed_on M.steps M.is_place (λ u v s on. is_graph.to_places u v on s) r.source.place p r.path r.leads begins
