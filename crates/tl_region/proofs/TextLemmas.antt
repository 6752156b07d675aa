-- What the parts of a region's text tell of the whole.
use Rattle.std.proofs.Common.{◌≡◌, inl, inr, ℕ, Bool, true, false, List, [], ◌∷◌, Option, Some, None, Ok, Err, refl, sym, ◌∙◌, ap, subst, arith, ◌≤◌}
use Rattle.std.specs.Prelude.{nat_lt, IfSome, slice_get, if◌then◌else◌}
use Rattle.tl_definitions.specs.declared.Kind.{Kind}
use Rattle.tl_definitions.specs.declared.Cell.{Cell}
use Rattle.tl_definitions.specs.Region.{Region}
use Rattle.tl_formats.specs.Input.{Section, section_of, first_section}
use Rattle.tl_definitions.specs.Accepted.{IsPlaced}
use Rattle.tl_formats.specs.RegionText.{RegionRefusal, bad_header, too_large, kind_of, first_bad_byte, region_of, is_too_large, region_of_rows, region_of_lines}
use Rattle.tl_formats.specs.Marks.{text_marks, is_bad}
use Rattle.tl_formats.proofs.RegionTexts.{region_of-cells, region_of-placed, first_bad_byte-marks}
use Rattle.std.proofs.lemmas.Bool.{or_parts, ltb-false}
use Rattle.tl_definitions.specs.declared.TheConstants.{SIDE_LIMIT}
use Rattle.tl_region.proofs.RowLemmas.{kept-all}
use Rattle.tl_lines.specs.Lines.{IsFirstLine, section_at}
use Rattle.tl_region.specs.declared.rows.Rows.{Rows}
use Rattle.tl_region.specs.Rows.{IsRowsOf, IsBadByteOf, region_by, HasAllowedSize, HasRefusedSize}
use Rattle.tl_region.specs.Texts.{IsReadableText, IsUnreadableText}

-- the first section has its first line, and what follows it
pub first_section-cut : (s line rest : List ℕ) → IsFirstLine s line rest
    → first_section s ≡ record { lines = line ∷ (section_at rest).lines; rest = (section_at rest).rest }
first_section-cut s line rest f =
    ap section_of f.first ∙ ap (λ (l : List ℕ). record { lines = l ∷ (section_at rest).lines; rest = (section_at rest).rest }) (sym f.is_line)

-- the region of rows that were read is the one that the lines name, where it isn't too large
pub region_by-lines : (k : Kind) (lines : List (List ℕ)) (rows : Rows) → IsRowsOf lines rows → rows.count ≤ SIDE_LIMIT → rows.columns ≤ SIDE_LIMIT
    → region_by k rows ≡ region_of k lines
region_by-lines k lines rows s few short =
    let all = kept-all 0 0 lines (omega (arith, few, s.count)) (omega (arith, short, s.columns)) in
    let cells = s.cells ∙ all ∙ sym (region_of-cells k lines) in
    λ i. record { kind = k; rows = s.count i; columns = s.columns i; cells = cells i }

pub region_by-placed : (k : Kind) (lines : List (List ℕ)) (rows : Rows) → IsRowsOf lines rows → rows.count ≤ SIDE_LIMIT → rows.columns ≤ SIDE_LIMIT
    → IsPlaced (region_by k rows)
region_by-placed k lines rows s few short = subst IsPlaced (sym (region_by-lines k lines rows s few short)) (region_of-placed k lines)

named : (l : List ℕ) (rows : List (List ℕ)) (k : Kind) → kind_of l ≡ Some k → region_of_lines (l ∷ rows) ≡ region_of_rows k rows
named l rows k e = rw e refl

clean_rows : (k : Kind) (lines : List (List ℕ)) → text_marks is_bad 0 lines ≡ []
    → region_of_rows k lines ≡ (if is_too_large (region_of k lines) then Err too_large else Ok (region_of k lines))
clean_rows k lines e =
    let none : first_bad_byte lines ≡ None = first_bad_byte-marks lines ∙ ap (λ (l : List Cell). slice_get l 0) e in
    rw (none, region_of_rows) refl

-- a refused header
pub refused_header : (l : List ℕ) (rows : List (List ℕ)) → kind_of l ≡ None → IsUnreadableText (l ∷ rows) bad_header
refused_header l rows e = inl (rw e refl)

-- a bad byte
pub refused_byte : (l : List ℕ) (rows : List (List ℕ)) (k : Kind) (f : RegionRefusal) → kind_of l ≡ Some k → IsBadByteOf rows f → IsUnreadableText (l ∷ rows) f
refused_byte l rows k f e (a, is, first) =
    let bad : first_bad_byte rows ≡ Some a = first_bad_byte-marks rows ∙ first in
    inl (named l rows k e ∙ (rw (bad, region_of_rows) refl ∙ ap (λ (g : RegionRefusal). Err g) (sym is)))

-- rows without one name their region, where it isn't too large
sized : (l : List ℕ) (lines : List (List ℕ)) (k : Kind) (rows : Rows) (large : Bool) → kind_of l ≡ Some k → IsRowsOf lines rows
    → is_too_large (region_by k rows) ≡ large → region_of_lines (l ∷ lines) ≡ (if large then Err too_large else Ok (region_of k lines))
sized l lines k rows large e s t =
    let same : is_too_large (region_of k lines) ≡ large = rw (← s.count, ← s.columns) t in
    named l lines k e ∙ clean_rows k lines s.clean ∙ ap (λ (b : Bool). if b then Err too_large else Ok (region_of k lines)) same

small : (l : List ℕ) (lines : List (List ℕ)) (k : Kind) (rows : Rows) → kind_of l ≡ Some k → IsRowsOf lines rows
    → is_too_large (region_by k rows) ≡ false → region_of_lines (l ∷ lines) ≡ Ok (region_by k rows)
small l lines k rows e s t =
    let p = or_parts (nat_lt SIDE_LIMIT rows.count) (nat_lt SIDE_LIMIT rows.columns) t in
    sized l lines k rows false e s t
    ∙ ap (λ (R : Region). Ok R) (sym (region_by-lines k lines rows s (ltb-false SIDE_LIMIT rows.count p.0) (ltb-false SIDE_LIMIT rows.columns p.1)))

pub refused_size : (l : List ℕ) (lines : List (List ℕ)) (k : Kind) (rows : Rows) (f : RegionRefusal) → kind_of l ≡ Some k → IsRowsOf lines rows
    → HasRefusedSize (region_by k rows) f → IsUnreadableText (l ∷ lines) f
refused_size l lines k rows f e s (inl (large, is)) = inl (sized l lines k rows true e s large ∙ ap (λ (g : RegionRefusal). Err g) (sym is))
refused_size l lines k rows f e s (inr (fits, none, is)) = inr (region_by k rows, small l lines k rows e s fits, none, is)

pub readable : (l : List ℕ) (lines : List (List ℕ)) (k : Kind) (rows : Rows) (R : Region) → kind_of l ≡ Some k → IsRowsOf lines rows
    → R ≡ region_by k rows → HasAllowedSize R → IsReadableText (l ∷ lines) R
readable l lines k rows R e s same (fits, some) =
    (small l lines k rows e s (ap is_too_large (sym same) ∙ fits) ∙ ap (λ (S : Region). Ok S) (sym same), some)

-- a refusal of the lines of the first section, from one of its first line and the others
pub refused_section : (s line rest : List ℕ) (told : Option RegionRefusal) (P : RegionRefusal → Type 0) → IsFirstLine s line rest
    → ((f : RegionRefusal) → P f → IsUnreadableText (line ∷ (section_at rest).lines) f) → IfSome told P
    → IfSome told (IsUnreadableText (first_section s).lines)
refused_section s line rest None P first f p = p
refused_section s line rest (Some r) P first f p =
    subst (λ (section : Section). IsUnreadableText section.lines r) (sym (first_section-cut s line rest first)) (f r p)

pub readable_section : (s line rest : List ℕ) (R : Region) → IsFirstLine s line rest → IsReadableText (line ∷ (section_at rest).lines) R
    → IsReadableText (first_section s).lines R
readable_section s line rest R first p = subst (λ (section : Section). IsReadableText section.lines R) (sym (first_section-cut s line rest first)) p
