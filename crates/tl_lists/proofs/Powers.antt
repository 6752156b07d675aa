-- The least power of two with a property is one.
use Rattle.std.proofs.Common.{◌≡◌, ℕ, ◌<◌, arith, refl, sym, ◌∙◌, subst}
use Rattle.std.specs.Prelude.{◌^◌}
use Rattle.tl_lists.specs.Powers.{IsLeastPower}

pub same_exponent : (e f : ℕ) → ¬ (e < f) → ¬ (f < e) → e ≡ f
same_exponent e f p q = omega (arith, p, q)

-- the start of a sample is one, and its distance from a tiling too
pub same_power : (P : ℕ → Type 0) (bound T T' : ℕ) → IsLeastPower P bound T → IsLeastPower P bound T' → T ≡ T'
same_power P bound T T' l m =
    let e = same_exponent l.exponent m.exponent (λ h. m.least l.exponent h (subst P l.power l.holds)) (λ h. l.least m.exponent h (subst P m.power m.holds)) in
    l.power ∙ subst (λ n. 2 ^ l.exponent ≡ 2 ^ n) e refl ∙ sym m.power
