-- Bands of the same rows.
use Rattle.std.proofs.Common.{◌≡◌, ℕ, ◌<◌, ◌⊎◌, inl, inr, List, length, get_or, set, refl, sym, ◌∙◌, subst, arith}
use Rattle.std.proofs.lemmas.Bool.{cases_eq}
use Rattle.std.proofs.lemmas.List.{get_or-set_other, get_or-set_same}
use Rattle.std.proofs.Math.ListN.{length-set}
use Rattle.tl_band.specs.declared.band.Band.{Band}
use Rattle.tl_band.specs.Bands.{AreSameRows}
use Rattle.tl_crew.specs.Bands.{AreSameBands}

pub same-rows : (b : Band) → AreSameRows b b
same-rows b = record { upper_own = refl; upper_beside = refl; lower_own = refl; lower_beside = refl }

rows-more : (a b d : Band) → AreSameRows a b → AreSameRows b d → AreSameRows a d
rows-more a b d p q = record {
  upper_own = q.upper_own ∙ p.upper_own;
  upper_beside = q.upper_beside ∙ p.upper_beside;
  lower_own = q.lower_own ∙ p.lower_own;
  lower_beside = q.lower_beside ∙ p.lower_beside;
}

pub same-bands : (bands : List Band) → AreSameBands bands bands
same-bands bands = record { count = refl; each = λ j d within. same-rows (get_or bands j d) }

pub bands-more : (old new newer : List Band) → AreSameBands old new → AreSameBands new newer → AreSameBands old newer
bands-more old new newer p q = record {
  count = q.count ∙ p.count;
  each = λ j d within. rows-more (get_or old j d) (get_or new j d) (get_or newer j d) (p.each j d within) (q.each j d (omega (arith, within, p.count)));
}

-- one band in the place of another
pub band-put : (bands : List Band) (j : ℕ) (b : Band) → j < length bands → ((d : Band) → AreSameRows (get_or bands j d) b) → AreSameBands bands (set bands j b)
band-put bands j b within same = record { count = length-set bands j b; each = each }
  where
    each : (k : ℕ) (d : Band) → k < length bands → AreSameRows (get_or bands k d) (get_or (set bands j b) k d)
    each k d inside = go (cases_eq k j)
      where
        go : (k ≡ j) ⊎ ((k ≡ j) → ⊥) → AreSameRows (get_or bands k d) (get_or (set bands j b) k d)
        go (inl e) =
            subst (λ (n : ℕ). AreSameRows (get_or bands n d) (get_or (set bands j b) n d)) (sym e)
            (subst (λ (x : Band). AreSameRows (get_or bands j d) x) (sym (get_or-set_same bands j b d within)) (same d))
        go (inr n) =
            subst (λ (x : Band). AreSameRows (get_or bands k d) x) (sym (get_or-set_other bands j k b d n)) (same-rows (get_or bands k d))
