-- The residue of a corner: a number below the rise of a flip, which rises by 1 modulo it along each directed step.
use Rattle.std.specs.Prelude.{ℕ, ◌-◌, ◌*◌, ◌%◌, ◌==◌, if◌then◌else◌}
use Rattle.tl_definitions.specs.declared.Kind.{Kind}
use Rattle.tl_definitions.specs.declared.Kind.TheVariants.{Square, Triangle}
use Rattle.tl_definitions.specs.declared.Corner.{Corner}

abbrev pub residue : Kind → Corner → ℕ
residue Square v = if v.x % 2 == 0 then v.r % 2 else 3 - v.r % 2
residue Triangle v = (2 * v.x) % 3
