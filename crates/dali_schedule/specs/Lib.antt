-- The *seats* say who is expected and who has the *baton*, which goes from one that is expected to the next.
pub mod Seats
