-- What was committed survives the loading of rows.
use Rattle.std.proofs.Common.{◌≡◌, inl, inr, ◌≤◌, ℕ, zero, suc, Bool, false, List, [], ◌∷◌, ◌++◌, Option, Some, length, map, refl, sym, ◌∙◌, ap}
use Rattle.std.specs.Prelude.{◌||◌, IfSome, is_some}
use Rattle.std.specs.List.{list_any}
use Rattle.dali_arguments.specs.Laws.{IsInRange}
use Rattle.dali_arguments.specs.declared.task.Task.TheVariants.{Load}
use Rattle.dali_log.specs.Reads.{OnlyReads}
use Rattle.dali_listing.specs.declared.Listed.{Listed}
use Rattle.dali_load.specs.Answers.{expected}
use Rattle.dali_load.specs.Scripts.{group_at, groups, insert, round_of, script_of}
use Rattle.dali_load.proofs.Loadable.{right_script}
use Rattle.dali_fuse.specs.Fuse.{inner}
use Rattle.dali_record.specs.declared.records.Record.{Record}
use Rattle.dali_script.specs.declared.commands.ClientCommand.TheVariants.{Commit}
use Rattle.dali_script.specs.declared.commands.Command.{Command}
use Rattle.dali_script.specs.declared.commands.Command.TheVariants.{Checkpoint}
use Rattle.dali_store.specs.Store.{Files as Disk}
use Rattle.dali_store.specs.declared.store.Store.{Ghosts}
use Rattle.dali_runs.specs.Run.{log_in}
use Rattle.dali_run.specs.declared.halt.Halt.{Halt}
use Rattle.dali_run.specs.declared.halt.Halt.TheVariants as halts
use Rattle.dali_run.specs.declared.status.Status.{Status}
use Rattle.dali_run.specs.declared.status.Status.TheVariants.{Done, BadWords, BadScript, TooLong, ReadFault, WriteFault, StoreFault, BadStore, Unformatted, Formatted, StoreUnsteady, RecordTooLong, OutOfMemory, LogFull, TooSmall, NotLoaded}
use Rattle.dali_run.specs.Ends.{Course, EndedLoad, LoadStops}
use Rattle.dali_run.specs.Honest.{is_poke, pokes}
use Rattle.dali_run.specs.Loading.{Disproved, HasRows, Loads, NothingDone, NotFoundRows, NotLoads, RunsBadly, StoreStops}
use Rattle.dali_run.specs.Looking.{NotLooked}
use Rattle.dali_run.specs.Program.{store_of}
use Rattle.dali_run.specs.Scripts.{RanWhole, StoppedIn, CutIn}
use Rattle.dali_run.specs.Survives.{AnyFiles, BeginsWith, Holds, IsOwn, NoneEscapesBehind, NoneEscapesIn, SafeBehind, SafeThere}
use Rattle.dali_run.specs.Told.{AreFit}
use Rattle.dali_run.proofs.Fit.{fits}
use Rattle.dali_run.proofs.Honest.{behind_honest, calm_step, left_none, next_none, none_in, walked}
use Rattle.dali_run.proofs.Surviving.{begins_down, begins_then, fails_own, grows, next_fit, own_all, own_same, own_store, step_goes, there}

-- ---- the script has no poke
inserts_none : (rows : List Listed) → list_any is_poke (map insert rows ++ Commit ∷ []) ≡ false
inserts_none [] = refl
inserts_none (row ∷ rows) = inserts_none rows

round_none : (rows : List Listed) → pokes (round_of rows) ≡ false
round_none rows = ap (λ (b : Bool). b || false) (inserts_none rows)

rounds_none : (rows : List Listed) (numbers : List ℕ) → list_any pokes (map (λ i. round_of (group_at rows i)) numbers ++ Checkpoint ∷ []) ≡ false
rounds_none rows [] = refl
rounds_none rows (i ∷ numbers) =
    ap (λ (b : Bool). b || list_any pokes (map (λ j. round_of (group_at rows j)) numbers ++ Checkpoint ∷ [])) (round_none (group_at rows i))
    ∙ rounds_none rows numbers

-- the numbers of the groups
abbrev numbers_below : ℕ → List ℕ
numbers_below zero = []
numbers_below (suc n) = numbers_below n ++ n ∷ []

script_none : (index heap : ℕ) (rows : List Listed) → list_any pokes (script_of index heap rows) ≡ false
script_none index heap rows = rounds_none rows (numbers_below (groups (length rows)))

-- ---- of what has more, less can be said
no_front : (base more : List Record) → base ++ more ≡ [] → base ≡ []
no_front [] more e = refl
no_front (r ∷ base) more e = absurd (cc)

less : (base log : List Record) → BeginsWith base log → (c : Disk) → Holds log c → Holds base c
less base log more c (inl h) = inl (h.0, no_front base more.0 (sym more.1 ∙ h.1))
less base log more c (inr h) = inr (record { files = h.files; spells = h.spells; finds = h.finds; history = h.history; begins = begins_then base log (log_in h.files) more h.begins })

module _ {V : Type 0} (g : Ghosts V)
    (reads_now : (s : V) → IfSome (g.told s) (λ fs. g.may_leave s fs)) (counts_now : (s : V) (t : ℕ) (c : Disk) → t ≤ g.moment s → g.may_leave s c → g.left_since s t c) where
  less_own : (base log : List Record) → BeginsWith base log → (s : V) → IsOwn g log s → IsOwn g base s
  less_own base log more s own = (own.0, λ c may. less base log more c (own.1 c may))

  read_on : (base : List Record) (old new : V) → OnlyReads g.told g.moment g.left_since g.may_leave old new → IsOwn g base old → IsOwn g base new
  read_on base old new reads own = (ap is_some reads.same ∙ own.0, λ c may. own.1 c (reads.crash c may))

  not_looked : (base : List Record) (halt : Halt) (old new : V) → NotLooked g halt old new → IsOwn g base old → IsOwn g base new
  not_looked base halts.StoreFault old new none own = read_on base old new none.0 own
  not_looked base (halts.BadStore file at) old new none own = read_on base old new none.0 own
  not_looked base halts.Unformatted old new none own = read_on base old new none.0 own
  not_looked base halts.RecordTooLong old new none own = read_on base old new none.0 own
  not_looked base halts.OutOfMemory old new none own = read_on base old new none.0 own
  not_looked base _ old new none own = absurd none

  not_found : (base : List Record) (rows : List Listed) (halt : Halt) (old new : V) → NotFoundRows g rows halt old new → IsOwn g base old → IsOwn g base new
  not_found base rows halts.NotLoaded old new none own = read_on base old new none.finds.finds.read own
  not_found base rows halt old new none own = not_looked base halt old new none own

  disproved : (base : List Record) (rows : List Listed) (lines : List ℕ) (halt : Halt) (old new : V) → Disproved g rows lines halt old new → IsOwn g base old → IsOwn g base new
  disproved base rows lines halt old new (inl h) own = own_same g base old new (sym h.1) own
  disproved base rows lines halt old new (inr h) own = not_found base rows halt old new h.1 own

  -- ---- a script without pokes
  module _ (base : List Record) (start : V) (own : IsOwn g base start) (script : List Command) (fit : AreFit script) (none : list_any pokes script ≡ false) where
    ran_own : (before after : Option (List ℕ)) (end : V) → RanWhole g 268435456 false start script before after end → IsOwn g base end
    ran_own before after end ran =
        let w = walked g reads_now counts_now 268435456 false base start script fit none own (length script) ran.text ran.state ran.run in
        let gone = there g reads_now counts_now 268435456 false base start script (length script) ran.text ran.state ran.run own w.each in
        let safe : Disk → Type 0 = SafeThere g 268435456 false start script (length script) ran.text ran.state ran.run in
        let more = grows g reads_now counts_now 268435456 false AnyFiles _ base ran.run.first (begins_down g base ran.run.first start ran.run.down own) ran.text ran.state ran.run.runs gone.log gone.each in
        let last : IsOwn g gone.log (inner (store_of ran.state)) =
        own_all g (NoneEscapesIn safe ran.state) gone.log (inner (store_of ran.state)) (none_in g reads_now counts_now safe ran.state w.calm) (own_store g safe gone.log ran.state gone.point) in
        own_same g base (inner (store_of ran.state)) end ran.store (less_own base gone.log more (inner (store_of ran.state)) last)

    stopped_own : (halt : Halt) (before after : Option (List ℕ)) (end : V) → StoppedIn g 268435456 false halt start script before after end → IsOwn g base end
    stopped_own halt before after end stops =
        let w = walked g reads_now counts_now 268435456 false base start script fit none own stops.count stops.text stops.state stops.run in
        let gone = there g reads_now counts_now 268435456 false base start script stops.count stops.text stops.state stops.run own w.each in
        let safe : Disk → Type 0 = SafeThere g 268435456 false start script stops.count stops.text stops.state stops.run in
        let more = grows g reads_now counts_now 268435456 false AnyFiles _ base stops.run.first (begins_down g base stops.run.first start stops.run.down own) stops.text stops.state stops.run.runs gone.log gone.each in
        let is_fit = next_fit script stops.count stops.command fit stops.next.next in
        let is_none = next_none script stops.count stops.command none stops.next.next in
        let last : IsOwn g gone.log (inner stops.last) =
        own_all g (NoneEscapesBehind g 268435456 false safe halt stops.command stops.state stops.last stops.fails) gone.log (inner stops.last)
        (behind_honest g reads_now counts_now 268435456 false safe halt stops.command is_fit is_none stops.state stops.last stops.fails w.calm)
        (fails_own g reads_now counts_now 268435456 false safe halt stops.command is_fit gone.log stops.state stops.last stops.fails gone.point) in
        own_same g base (inner stops.last) end stops.store (less_own base gone.log more (inner stops.last) last)

    cut_own : (before after : Option (List ℕ)) (end : V) → CutIn g 268435456 false start script before after end → IsOwn g base end
    cut_own before after end cut =
        let w = walked g reads_now counts_now 268435456 false base start script fit none own cut.count cut.text cut.earlier cut.ran in
        let gone = there g reads_now counts_now 268435456 false base start script cut.count cut.text cut.earlier cut.ran own w.each in
        let earlier : Disk → Type 0 = SafeThere g 268435456 false start script cut.count cut.text cut.earlier cut.ran in
        let more = grows g reads_now counts_now 268435456 false AnyFiles _ base cut.ran.first (begins_down g base cut.ran.first start cut.ran.down own) cut.text cut.earlier cut.ran.runs gone.log gone.each in
        let is_fit = next_fit script cut.count cut.command fit cut.next.next in
        let is_none = next_none script cut.count cut.command none cut.next.next in
        let step = step_goes g reads_now counts_now 268435456 false earlier cut.command gone.log cut.earlier cut.state cut.more cut.steps gone.point
        (left_none g reads_now counts_now 268435456 false earlier cut.command cut.earlier cut.more cut.state cut.steps w.calm) in
        let safe : Disk → Type 0 = SafeBehind g 268435456 false earlier cut.command cut.earlier cut.more cut.state cut.steps in
        let calm = calm_step g reads_now counts_now 268435456 false earlier cut.command is_fit is_none cut.earlier cut.more cut.state cut.steps w.calm in
        let last : IsOwn g step.log (inner (store_of cut.state)) =
        own_all g (NoneEscapesIn safe cut.state) step.log (inner (store_of cut.state)) (none_in g reads_now counts_now safe cut.state calm) (own_store g safe step.log cut.state step.point) in
        own_same g base (inner (store_of cut.state)) end cut.store (less_own base step.log (begins_then base gone.log step.log more step.more) (inner (store_of cut.state)) last)

    store_stops_own : (halt : Halt) (end : V) → StoreStops g 268435456 false halt start script end → IsOwn g base end
    store_stops_own halts.OutOfMemory end (inl stops) = stopped_own halts.OutOfMemory (Some []) stops.0 end stops.1
    store_stops_own halts.OutOfMemory end (inr cut) = cut_own (Some []) cut.0 end cut.1
    store_stops_own halt end stops = stopped_own halt (Some []) stops.0 end stops.1

  -- ---- rows
  module _ (index heap : ℕ) (range : IsInRange (Load index heap)) (c : Course V) (base : List Record) (own : IsOwn g base c.store) where
    rows_fit : (rows : List Listed) → HasRows c.left rows c.left' → AreFit (script_of index heap rows)
    rows_fit rows has = fits (script_of index heap rows) (right_script has.bytes rows index heap has.spelled range.0.0 range.0.1 range.1.0 range.1.1).right

    loads_own : (rows : List Listed) → HasRows c.left rows c.left' → Loads g index heap rows c.store c.store' → IsOwn g base c.store'
    loads_own rows has loads =
        read_on base loads.stored c.store' loads.finds.finds.read
        (ran_own base c.store own (script_of index heap rows) (rows_fit rows has) (script_none index heap rows) (Some []) (Some (expected (length rows))) loads.stored loads.ran)

    nothing_own : (rows : List Listed) (halt : Halt) → NothingDone g index heap rows halt c.store c.store' → IsOwn g base c.store'
    nothing_own rows halts.OutOfMemory same = own_same g base c.store c.store' (sym same) own
    nothing_own rows halts.TooSmall h = own_same g base c.store c.store' (sym h.1) own
    nothing_own rows _ h = absurd h

    badly_own : (rows : List Listed) → HasRows c.left rows c.left' → (halt : Halt) → RunsBadly g index heap rows halt c.store c.store' → IsOwn g base c.store'
    badly_own rows has halt (inl stops) =
        store_stops_own base c.store own (script_of index heap rows) (rows_fit rows has) (script_none index heap rows) halt c.store' stops
    badly_own rows has halt (inr un) =
        disproved base rows un.lines halt un.stored c.store' un.disproved
        (ran_own base c.store own (script_of index heap rows) (rows_fit rows has) (script_none index heap rows) (Some []) (Some un.lines) un.stored un.ran)

    not_loads_own : (rows : List Listed) → HasRows c.left rows c.left' → (halt : Halt) → NotLoads g index heap rows halt c.store c.store' → IsOwn g base c.store'
    not_loads_own rows has halt (inl h) = nothing_own rows halt h
    not_loads_own rows has halt (inr h) = badly_own rows has halt h.1

    stop_own : (halt : Halt) (mid : Option (List ℕ)) → LoadStops g index heap halt c mid → IsOwn g base c.store'
    stop_own halt mid stops = not_loads_own stops.0 stops.1 halt stops.2

    untouched : c.store' ≡ c.store → IsOwn g base c.store'
    untouched same = own_same g base c.store c.store' (sym same) own

    pub loaded_own : (mid : Option (List ℕ)) (count : ℕ) (status : Status) → EndedLoad g index heap c mid count status → IsOwn g base c.store'
    loaded_own mid count Done ended = loads_own ended.0 ended.1 ended.2
    loaded_own mid count WriteFault ended = loads_own ended.0 ended.1 ended.2
    loaded_own mid count (BadScript line kind) ended = untouched ended.1.0
    loaded_own mid count TooLong ended = untouched ended.1.0
    loaded_own mid count ReadFault ended = untouched ended.1.0
    loaded_own mid count OutOfMemory (inl same) = untouched same.0
    loaded_own mid count OutOfMemory (inr stops) = stop_own halts.OutOfMemory mid stops
    loaded_own mid count StoreFault ended = stop_own halts.StoreFault mid ended
    loaded_own mid count (BadStore file at) ended = stop_own (halts.BadStore file at) mid ended
    loaded_own mid count Unformatted ended = stop_own halts.Unformatted mid ended
    loaded_own mid count Formatted ended = stop_own halts.Formatted mid ended
    loaded_own mid count StoreUnsteady ended = stop_own halts.StoreUnsteady mid ended
    loaded_own mid count RecordTooLong ended = stop_own halts.RecordTooLong mid ended
    loaded_own mid count (LogFull end most) ended = stop_own (halts.LogFull end most) mid ended
    loaded_own mid count TooSmall ended = stop_own halts.TooSmall mid ended
    loaded_own mid count NotLoaded ended = stop_own halts.NotLoaded mid ended
    loaded_own mid count BadWords ended = absurd ended
