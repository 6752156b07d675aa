-- Vectors whose words were written through a slice.
use Rattle.std.proofs.Common.{◌≡◌, ℕ, List, Vec, Global, length, sym, ◌∙◌, ap}
use Rattle.std.specs.Vec.{with_items}
use Rattle.std.proofs.lemmas.List.{with_items_is}

pub written : (v : Vec ℕ Global) (old new : List ℕ) → old ≡ v.items → length new ≡ length old → new ≡ (with_items v new).items
written v old new items size = sym (with_items_is v new (size ∙ (ap length items ∙ sym v.ok.0)))

pub written-size : (v : Vec ℕ Global) (new : List ℕ) → length (with_items v new).items ≡ length v.items
written-size v new = sym (with_items v new).ok.0 ∙ v.ok.0
