-- What is printed of the rows that are asked for is their group.
use Rattle.common_laws.proofs.Base.{true, false, List, [], ◌∷◌, ◌++◌, map, append_assoc, append-nil, ◌≡◌, refl, sym, ap, ◌∙◌, ℕ}
use Rattle.reading.specs.Choice.{pick}
use Rattle.text.specs.Bytes.{bytes}
use Rattle.writer.specs.Octal.{octal_bytes}
use Rattle.library_table.specs.Cells.{Row, Group}
use Rattle.truth_tables.specs.Entries.{row_number, row_bytes, group_bytes}
use Rattle.truth_rows.specs.Asked.{AsksFor}
use Rattle.truth_rows.specs.declared.Asked.{Asked}
use Rattle.truth_entry.specs.Printed.{one_bytes, more_bytes, rows_bytes}

more_group : (r : Row) (g : Group) → group_bytes (r ∷ g) ≡ octal_bytes (row_number r) ++ more_bytes true (map row_number g)
unfolding group_bytes row_bytes more_bytes one_bytes pick
more_group r [] = sym (append-nil (octal_bytes (row_number r)))
more_group r (q ∷ g) =
    ap (λ (l : List ℕ). octal_bytes (row_number r) ++ (bytes ",M," ++ l)) (more_group q g)
    ∙ ap (λ (l : List ℕ). octal_bytes (row_number r) ++ l) (sym (append_assoc (bytes ",M,") (octal_bytes (row_number q)) (more_bytes true (map row_number g))))

group_bytes_lem : (g : Group) → more_bytes false (map row_number g) ≡ group_bytes g
unfolding group_bytes more_bytes one_bytes pick
group_bytes_lem [] = refl
group_bytes_lem (r ∷ g) = sym (more_group r g)

pub asks-bytes : (a : Asked) (g : Group) → AsksFor a g → rows_bytes a ≡ group_bytes g
unfolding rows_bytes
asks-bytes a g k = ap (more_bytes false) k.rows ∙ group_bytes_lem g
