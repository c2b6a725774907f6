-- The groups of a line, one by one.
use Rattle.common_laws.proofs.Base.{◌∷◌, ◌++◌, map, append_assoc, append-nil, ◌≡◌, sym, ℕ, zero, suc, ◌+◌, add-zero, add-suc, suc-add}
use Rattle.library_table.specs.Cells.{Group}
use Rattle.truth_tables.specs.Entries.{group_bytes, groups_bytes}
use Rattle.truth_rows.specs.Masks.{up_from}

pub groups-more : (g : ℕ → Group) (j k : ℕ)
    → groups_bytes (map g (up_from j (suc k))) ≡ groups_bytes (map g (up_from j k)) ++ (44 ∷ group_bytes (g (j + k)))
unfolding groups_bytes up_from
groups-more g j zero = rw (add-zero j) (append-nil (44 ∷ group_bytes (g j)))
groups-more g j (suc k) =
    rw (groups-more g (suc j) k, suc-add j k, add-suc j k)
    (sym (append_assoc (44 ∷ group_bytes (g j)) (groups_bytes (map g (up_from (suc j) k))) (44 ∷ group_bytes (g (suc (j + k))))))
