-- The fields of a redo, as contracts see them, and what is true of them.
use Rattle.std.specs.Prelude.{◌≡◌, ℕ, length}
use Rattle.dali_geometry.specs.Places.{regions}
use Rattle.dali_redo.specs.declared.redo.Redo.TheInside.{Inside}
use Rattle.dali_redo.specs.Redoing.{Redoing, AreUndos, performed_in}

abbrev pub redoing_of : Inside → Redoing
redoing_of a = record { sizes = a.geometry; image = a.image; table = a.table; left = a.left; next = a.next }

pub record IsWhole (a : Inside) : Type 0 where
  pub undos : (t : ℕ) → AreUndos (performed_in a.left a.table t)
  pub regions : length a.image ≡ regions a.geometry
