-- Bands one below the other.
use Rattle.std.specs.Prelude.{◌≡◌, ℕ, ◌+◌, ◌-◌, ◌<◌, All, List, length, slice_index_or}
use Rattle.tl_layout.specs.declared.layout.Layout.{Layout}
use Rattle.tl_band.specs.declared.band.Band.{Band}
use Rattle.tl_band.specs.Bands.{AreSameRows, IsPlacedIn}
use Rattle.tl_crew.specs.declared.share.Share.{Share}

-- Each of the items has the rows from its first to before its end, one or more. Together they have those from `first` to before
-- `end`, in order.
pub record AreStacked {T : Type 0} (first_of end_of : T → ℕ) (first end : ℕ) (items : List T) : Type 0 where
  pub some : 0 < length items
  pub has_row : (j : ℕ) (d : T) → j < length items → first_of (slice_index_or items j d) < end_of (slice_index_or items j d)
  pub begins : (d : T) → first_of (slice_index_or items 0 d) ≡ first
  pub next : (j : ℕ) (d : T) → j + 1 < length items → first_of (slice_index_or items (j + 1) d) ≡ end_of (slice_index_or items j d)
  pub ends : (d : T) → end_of (slice_index_or items (length items - 1) d) ≡ end

-- Bands of the rows of words from the first to before the end.
pub record AreBandsIn (l : Layout) (first end : ℕ) (bands : List Band) : Type 0 where
  pub each : All (IsPlacedIn l) bands
  pub stacked : AreStacked (λ band. band.upper.own) (λ band. band.lower.beside) first end bands

-- as many bands, each of the same rows
pub record AreSameBands (old new : List Band) : Type 0 where
  pub count : length new ≡ length old
  pub each : (j : ℕ) (d : Band) → j < length old → AreSameRows (slice_index_or old j d) (slice_index_or new j d)

-- ---- the bands of all hands

-- the bands of a hand have the rows that it says
abbrev pub IsShareIn : Layout → Share → Type 0
IsShareIn l share = AreBandsIn l share.first share.end share.bands.items

-- The bands of all hands have the rows of words from row 1 to the last row but two. Corners stand in no others.
pub record AreSharesIn {T : Type 0} (share_of : T → Share) (l : Layout) (hands : List T) : Type 0 where
  pub each : All (λ hand. IsShareIn l (share_of hand)) hands
  pub stacked : AreStacked (λ hand. (share_of hand).first) (λ hand. (share_of hand).end) 1 (l.height - 2) hands
