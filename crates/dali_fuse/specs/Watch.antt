-- A store whose calls are told.
-- Words: watched, hook_of.
use Rattle.dali_fuse.specs.declared.watch.Watch.{Watch}

module _ {V H : Type 0} where
  -- the store
  abbrev pub watched : Watch V H → V
  watched w = w.store

  abbrev pub hook_of : Watch V H → H
  hook_of w = w.hook
