-- Copies of strings are the strings of the same tiling.
use Rattle.std.proofs.Common.{◌≡◌, ℕ, ◌+◌, List, ◌++◌, length, sym, ◌∙◌, ap, subst, arith, append-nil, ℤ}
use Rattle.std.proofs.lemmas.List.{drop_all}
use Rattle.tl_lists.specs.Lists.{put_at}
use Rattle.tl_definitions.specs.Region.{Region}
use Rattle.tl_strings.specs.Strings.{string_bit}
use Rattle.tl_pack.specs.Packs.{AreHeld, strings_of}
use Rattle.tl_pack.proofs.Stated.{held-from}
use Rattle.tl_packing.specs.Packing.{HoldsMarks}
use Rattle.tl_layout.specs.declared.layout.Layout.{Layout}
use Rattle.tl_packed.specs.declared.strings.Strings.{Strings}
use Rattle.tl_packed.specs.OfClasses.{AreCopies, of_class}
use Rattle.tl_packed.specs.OneTiling.{packed-one}
use Rattle.tl_packed.specs.PackedTiling.{PackedTiling}
use Rattle.tl_packed.specs.Packs.{Packs}

pub copies-pack : (R : Region) (l : Layout) (s others : Strings) (numbers : List ℤ) → AreCopies s others → Packs R l others numbers → Packs R l s numbers
copies-pack R l s others numbers copies packs = record {
  accepted = packs.accepted;
  layout = packs.layout;
  size = record { first = ap length copies.0 ∙ packs.size.first; second = ap length copies.1 ∙ packs.size.second; third = ap length copies.2 ∙ packs.size.third };
  lawful = packs.lawful;
  holds = subst (λ (strings : ℕ → List ℕ). HoldsMarks R l.height l.first numbers strings 0) (sym same) packs.holds;
  only = λ class row slot h low t. packs.only class row slot h low ((λ i. string_bit l.height (sym same i class) row slot) ∙ t);
}
  where
    same : of_class s ≡ of_class others
    same = λ i. strings_of (copies.0 i) (copies.1 i) (copies.2 i)

-- the same words hold the marks
pub words-hold : (R : Region) (l : Layout) (s : Strings) (numbers : List ℤ) (first second third : List ℕ) → Packs R l s numbers → first ≡ s.first.items → second ≡ s.second.items → third ≡ s.third.items
    → AreHeld R l (strings_of first second third) 0 numbers
words-hold R l s numbers first second third packs a b c =
    subst (λ (strings : ℕ → List ℕ). AreHeld R l strings 0 numbers) (λ i. strings_of (sym a i) (sym b i) (sym c i)) (held-from R l (of_class s) 0 numbers packs.lawful packs.holds)

-- ---- packed tilings as contracts see them

abbrev pub tiling_of : Region → Layout → List ℤ → PackedTiling
tiling_of R l numbers = record { layout = l; heights = record { region = R; numbers = numbers } }

-- strings hold the marks of one tiling alone
pub same-seen : (R S : Region) (l m : Layout) (s : Strings) (numbers others : List ℤ) → Packs R l s others → Packs R l s numbers → R ≡ S → l ≡ m → tiling_of R l others ≡ tiling_of S m numbers
same-seen R S l m s numbers others other_packs packs region layout = λ i. tiling_of (region i) (layout i) (packed-one R l s (others, other_packs) (numbers, packs) i)

pub other-frame : (R S : Region) (l m : Layout) (s : Strings) (numbers : List ℤ) → R ≡ S → l ≡ m → Packs R l s numbers → Packs S m s numbers
other-frame R S l m s numbers region layout packs = subst (λ (m : Layout). Packs S m s numbers) layout (subst (λ (S : Region). Packs S l s numbers) region packs)

-- the region and the layout of two tilings are the same, where those of what is seen of them are
pub same-frame : (R S : Region) (l m : Layout) (numbers others : List ℤ) (t u : PackedTiling) → tiling_of R l numbers ≡ t → tiling_of S m others ≡ u → u.layout ≡ t.layout
    → u.heights.region ≡ t.heights.region → (S ≡ R) × (m ≡ l)
same-frame R S l m numbers others t u is other_is layout region = (
  ap (λ (v : PackedTiling). v.heights.region) other_is ∙ (region ∙ sym (ap (λ (v : PackedTiling). v.heights.region) is)),
  ap (λ (v : PackedTiling). v.layout) other_is
      ∙ (layout ∙ sym (ap (λ (v : PackedTiling). v.layout) is)),
)

-- ---- numbers that are put over all others

pub put_at-all : {A : Type 0} (these others : List A) → length these ≡ length others → put_at 0 these others ≡ these
put_at-all these others e = ap (λ (rest : List _). these ++ rest) (drop_all (0 + length these) others (omega (arith, e))) ∙ append-nil these
