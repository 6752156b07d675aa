-- A graph of six places whose steps stand in a table: that of the tests.
use Rattle.std.specs.Prelude.{ℕ, ◌^◌, ◌&&◌, not, Bool, true, List, [], ◌∷◌, slice_index_or, Option, nat_lt, ◌==◌, pos, neg_ℤ}
use Rattle.std.specs.List.{list_all}
use Rattle.std.specs.Int.Signed.{le_z}
use Rattle.tl_lists.specs.Lists.{present, upto}
use Rattle.tl_search.specs.declared.spreading.Source.{Source}
use Rattle.tl_search.specs.Graphs.{GraphMeaning, has_step}

abbrev pub row_of : List (List (Option ℕ)) → ℕ → List ℕ
row_of table v = present (slice_index_or table v [])

abbrev pub table_graph : List (List (Option ℕ)) → List (List (Option ℕ)) → GraphMeaning
table_graph steps back = record { count = 6; is_place = λ v. nat_lt v 6; steps = row_of steps; back = row_of back }

-- Each step of the one table leads to a place, and a step of the other back from there.
abbrev pub leads_back : List (List (Option ℕ)) → List (List (Option ℕ)) → Bool
leads_back steps back = list_all (λ u. list_all (λ v. nat_lt v 6 && has_step (row_of back) v u) (row_of steps u)) (upto 6)

abbrev pub is_table : List (List (Option ℕ)) → List (List (Option ℕ)) → Bool
is_table steps back = leads_back steps back && leads_back back steps

-- These are sources of such a graph, each at a place of its own.
abbrev pub are_sources : List Source → Bool
are_sources [] = true
are_sources (s ∷ ss) =
    nat_lt s.place 6 && le_z (neg_ℤ (pos (2 ^ 30))) s.number && le_z s.number (pos (2 ^ 30))
    && list_all (λ t. le_z s.number t.number && not (s.place == t.place)) ss && are_sources ss
