-- Images and their log.
--     is_log_missing log a b gate    an image of these lengths, or an open gate, stands without a log
use Rattle.std.specs.Prelude.{ℕ, Bool, ◌==◌, not, ◌&&◌, ◌||◌}

abbrev pub is_log_missing : ℕ → ℕ → ℕ → Bool → Bool
is_log_missing log a b gate = (log == 0) && (not (a == 0) || (not (b == 0) || gate))
