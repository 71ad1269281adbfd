-- `Table U` is a finite map from numbers to rows; `with_row m t f` is the table with the change f of the row of t, and
-- m itself where t has none. `undos_at m t` is the list of t, empty where it is absent; `state_at m t` its state;
-- `last_of` the last of a list.
pub mod Table
