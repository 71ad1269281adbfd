-- How a command ends a run.
use Rattle.std.proofs.Common.{◌≡◌, ℕ, Bool, Result, Ok, Err, sym, subst}
use Rattle.std.specs.Prelude.{IfErr, OnErr}
use Rattle.dali_fuse.specs.declared.fuse.Fuse.{Fuse}
use Rattle.dali_script.specs.declared.commands.Command.{Command}
use Rattle.dali_script.specs.declared.commands.Command.TheVariants.{Open, Restart, Poke, Audit, Checkpoint}
use Rattle.dali_store.specs.declared.store.Store.{Ghosts}
use Rattle.dali_transcripts.specs.Words.{Pokes, Audits, Checkpoints}
use Rattle.dali_run.specs.declared.halt.Halt.{Halt}
use Rattle.dali_run.specs.declared.halt.Halt.TheVariants.{BadWords, BadScript, TooLong, ReadFault, WriteFault, StoreFault, BadStore, Unformatted, Formatted, LogFull, TooSmall, NotLoaded, StoreUnsteady, RecordTooLong, OutOfMemory}
use Rattle.dali_run.specs.declared.program.Program.{Program}
use Rattle.dali_run.specs.declared.program.Program.TheVariants.{Up, Down}
use Rattle.dali_run.specs.Fails.{AloneEndsIn, Breaks, Fails}

module _ {V : Type 0} (g : Ghosts V) (precheck : Bool) where
  abbrev FailsSo : Halt → Command → Program V → Fuse V → Type 0
  FailsSo = Fails g precheck

  pub poke_ends : (halt : Halt) (region word mask : ℕ) (p : Program V) (f : Fuse V) → AloneEndsIn g precheck halt (Pokes region word mask) p f
      → Fails g precheck halt (Poke region word mask) p f
  poke_ends halt region word mask (Down store) f e = subst (λ (h : Halt). FailsSo h (Poke region word mask) (Down store) f) (sym e.0) e.1
  poke_ends StoreFault region word mask (Up core) f e = e
  poke_ends OutOfMemory region word mask (Up core) f e = e
  poke_ends BadWords region word mask (Up core) f e = absurd e
  poke_ends (BadScript line kind) region word mask (Up core) f e = absurd e
  poke_ends TooLong region word mask (Up core) f e = absurd e
  poke_ends ReadFault region word mask (Up core) f e = absurd e
  poke_ends WriteFault region word mask (Up core) f e = absurd e
  poke_ends (BadStore file at) region word mask (Up core) f e = absurd e
  poke_ends Unformatted region word mask (Up core) f e = absurd e
  poke_ends Formatted region word mask (Up core) f e = absurd e
  poke_ends StoreUnsteady region word mask (Up core) f e = absurd e
  poke_ends RecordTooLong region word mask (Up core) f e = absurd e
  poke_ends (LogFull end most) region word mask (Up core) f e = absurd e
  poke_ends TooSmall region word mask (Up core) f e = absurd e
  poke_ends NotLoaded region word mask (Up core) f e = absurd e

  pub audit_ends : (halt : Halt) (p : Program V) (f : Fuse V) → AloneEndsIn g precheck halt Audits p f → Fails g precheck halt Audit p f
  audit_ends halt (Down store) f e = subst (λ (h : Halt). FailsSo h Audit (Down store) f) (sym e.0) e.1
  audit_ends StoreFault (Up core) f e = e
  audit_ends OutOfMemory (Up core) f e = e
  audit_ends BadWords (Up core) f e = absurd e
  audit_ends (BadScript line kind) (Up core) f e = absurd e
  audit_ends TooLong (Up core) f e = absurd e
  audit_ends ReadFault (Up core) f e = absurd e
  audit_ends WriteFault (Up core) f e = absurd e
  audit_ends (BadStore file at) (Up core) f e = absurd e
  audit_ends Unformatted (Up core) f e = absurd e
  audit_ends Formatted (Up core) f e = absurd e
  audit_ends StoreUnsteady (Up core) f e = absurd e
  audit_ends RecordTooLong (Up core) f e = absurd e
  audit_ends (LogFull end most) (Up core) f e = absurd e
  audit_ends TooSmall (Up core) f e = absurd e
  audit_ends NotLoaded (Up core) f e = absurd e

  pub checkpoint_ends : (halt : Halt) (p : Program V) (f : Fuse V) → AloneEndsIn g precheck halt Checkpoints p f
      → Fails g precheck halt Checkpoint p f
  checkpoint_ends halt (Down store) f e = subst (λ (h : Halt). FailsSo h Checkpoint (Down store) f) (sym e.0) e.1
  checkpoint_ends StoreFault (Up core) f e = e
  checkpoint_ends OutOfMemory (Up core) f e = e
  checkpoint_ends BadWords (Up core) f e = absurd e
  checkpoint_ends (BadScript line kind) (Up core) f e = absurd e
  checkpoint_ends TooLong (Up core) f e = absurd e
  checkpoint_ends ReadFault (Up core) f e = absurd e
  checkpoint_ends WriteFault (Up core) f e = absurd e
  checkpoint_ends (BadStore file at) (Up core) f e = absurd e
  checkpoint_ends Unformatted (Up core) f e = absurd e
  checkpoint_ends Formatted (Up core) f e = absurd e
  checkpoint_ends StoreUnsteady (Up core) f e = absurd e
  checkpoint_ends RecordTooLong (Up core) f e = absurd e
  checkpoint_ends (LogFull end most) (Up core) f e = absurd e
  checkpoint_ends TooSmall (Up core) f e = absurd e
  checkpoint_ends NotLoaded (Up core) f e = absurd e

  -- whatever a result holds
  pub ends : {T : Type 0} (P Q : Halt → Type 0) (r : Result T Halt) → ((halt : Halt) → P halt → Q halt) → IfErr r P → IfErr r Q
  ends P Q (Ok x) by e = tt
  ends P Q (Err halt) by e = by halt e

  pub memory_fails : {T : Type 0} (r : Result T Halt) (command : Command) (p : Program V) (f : Fuse V) → OnErr r (Breaks g precheck command p f)
      → IfErr r (λ halt. halt ≡ OutOfMemory) → IfErr r (λ halt. Fails g precheck halt command p f)
  memory_fails (Ok x) command p f breaks is = tt
  memory_fails (Err halt) command p f breaks is = subst (λ (h : Halt). FailsSo h command p f) (sym is) breaks

  -- `open` fails as `restart` does
  pub open_fails : (halt : Halt) (p : Program V) (f : Fuse V) → Fails g precheck halt Restart p f → Fails g precheck halt Open p f
  open_fails StoreFault p f e = e
  open_fails OutOfMemory p f e = e
  open_fails BadWords p f e = absurd e
  open_fails (BadScript line kind) p f e = absurd e
  open_fails TooLong p f e = absurd e
  open_fails ReadFault p f e = absurd e
  open_fails WriteFault p f e = absurd e
  open_fails (BadStore file at) p f e = e
  open_fails Unformatted p f e = e
  open_fails StoreUnsteady p f e = e
  open_fails RecordTooLong p f e = e
  open_fails Formatted p f e = absurd e.0
  open_fails (LogFull end most) p f e = absurd e
  open_fails TooSmall p f e = absurd e
  open_fails NotLoaded p f e = absurd e
