-- What holds of the string of each class.
use Rattle.std.proofs.Common.{◌≡◌, ℕ, zero, suc, ◌<◌, ◌∙◌, ap, arith, length}
use Rattle.tl_definitions.specs.declared.Kind.{Kind}
use Rattle.tl_definitions.specs.declared.Kind.TheVariants.{Square, Triangle}
use Rattle.tl_definitions.specs.declared.Corner.{Corner}
use Rattle.tl_definitions.specs.Lattice.{class_of, classes}
use Rattle.tl_layout.specs.declared.layout.Layout.{Layout}
use Rattle.tl_layout.specs.Layouts.{size_of}
use Rattle.tl_packed.specs.declared.strings.Strings.{Strings}
use Rattle.tl_packed.specs.OfClasses.{AreOfLayout, of_class, third_size}

-- what holds of the classes that there are
pub by-class : (k : Kind) (P : ℕ → Type 0) → P 0 → P 1 → (k ≡ Triangle → P 2) → (class : ℕ) → class < classes k → P class
by-class k P first second third zero few = first
by-class k P first second third (suc zero) few = second
by-class Square P first second third (suc (suc class)) few = absurd (omega (arith, few))
by-class Triangle P first second third (suc (suc zero)) few = third (λ i. Triangle)
by-class Triangle P first second third (suc (suc (suc class))) few = absurd (omega (arith, few))

pub class-few : (k : Kind) (v : Corner) → class_of k v < classes k
class-few Square v = omega arith
class-few Triangle v = omega arith

-- the third string is as long as the others where there are three classes
pub third-size : (l : Layout) (s : Strings) → AreOfLayout l s → l.kind ≡ Triangle → length s.third.items ≡ size_of l
third-size l s size three = size.third ∙ ap (λ (k : Kind). third_size k (size_of l)) three

pub class-size : (l : Layout) (s : Strings) → AreOfLayout l s → (class : ℕ) → class < classes l.kind → length (of_class s class) ≡ size_of l
class-size l s size = by-class l.kind (λ (class : ℕ). length (of_class s class) ≡ size_of l) size.first size.second (third-size l s size)
