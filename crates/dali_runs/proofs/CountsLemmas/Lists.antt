-- What crates above still take from here of std and of dali_lists.
pub use Rattle.std.proofs.lemmas.Bool.{eqb-true as equal, eq-eqb as same_number}
pub use Rattle.std.proofs.lemmas.List.{length_push as length-push}
pub use Rattle.dali_lists.proofs.Lists.{get_take, set_cases}
pub use Rattle.dali_lists.proofs.Numbers.{eqb-self as self}
pub use Rattle.dali_lists.proofs.Options.{some_same}
pub use Rattle.dali_lists.proofs.Tests.{left_true as and_left, right_true as and_right}
