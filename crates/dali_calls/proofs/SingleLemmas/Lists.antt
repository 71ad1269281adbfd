-- One place of a list, and lists one behind another.
use Rattle.std.proofs.Common.{◌≡◌, List, ◌++◌, ap, ◌∙◌}
use Rattle.std.proofs.lemmas.List.{append_assoc}
pub use Rattle.dali_lists.proofs.Lists.{get_set, get_set_other as get_apart}
pub use Rattle.dali_lists.proofs.Members.{all_append as all_both}

pub logged_on : {X : Type 0} (L M N xs ys : List X) → M ≡ L ++ xs → N ≡ M ++ ys → N ≡ L ++ (xs ++ ys)
logged_on L M N xs ys p q = q ∙ (ap (λ l. l ++ ys) p ∙ append_assoc L xs ys)
