-- `number_of` is the number of a status; a body `ExitsWith` a number where there is a status of that number for which
-- `HasEnded` of `dali_run` is so of its words, streams and store, and what was committed survives; of a script also
-- what was acknowledged is durable, with damage too.
pub mod Exits
pub mod Tasks
