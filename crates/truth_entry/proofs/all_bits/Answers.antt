-- `all_bits` meets its contract.
use Rattle.common_laws.proofs.Base.{◌&&◌, refl, ◌∙◌, rules}
use Rattle.std.proofs.Common.{tests}
use Rattle.std.specs.List.{list_all}
use Rattle.std.proofs.lemmas.Iterator.{YieldsList-from_slice}
use Rattle.std.proofs.lemmas.Iterator.Search.{all_from_yields_List}
use Rattle.std.proofs.lemmas.List.Recursion.{same_from_clauses}
use Rattle.truth_tables.specs.Tables.{all_of}
use Rattle.truth_rows.specs.Masks.{is_bit}
use Rattle.truth_entry.proofs.all_bits.Goals as goal

pub returns : goal.returns
unfolding is_bit all_of
returns c =
    let bits = c.args.bits.now in
    all_from_yields_List is_bit _ _ _ c.all.ensures.ran (YieldsList-from_slice bits cc) (λ x b q k. search (rules, tests))
    ∙ same_from_clauses (list_all is_bit) (all_of is_bit) (λ x b. is_bit x && b) refl (λ _ _. refl) (λ _ _. refl) bits
