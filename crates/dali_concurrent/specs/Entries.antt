-- The entries of a round's one history, and what they tell.
--     Mark                     what a client did that nothing may come between: a deed, or the latch of a region
--     Entry                    an entry
--     Entries                  entries, each behind the numbers of the notes that signed it
--     system_note, vault_note, region_note r, client_note n c     the numbers of the notes, where there are n regions
--     region_of x              the region whose lock the client has that does the deed x, if it has one
--     values_of x, notes_of n e    the notes of the values that the deed x changes;  and those that sign the entry e
--     deeds_of H               the deeds in the history, each with its client, in order
--     done_by c H              what the client c did by then
--     on r H                   the deeds by then that want the hold of the region r
--     live_by r H              which transaction has a live hold of the region r by then, and the client that latched it
--     opener_by t H            which client began the transaction t by then
--     actor_by t H             which client acts for it: who began it, or has claimed it since
--     At H i p                 the entry p stands at this place
use Rattle.std.specs.Prelude.{◌≡◌, ℕ, suc, ◌+◌, Bool, List, [], ◌∷◌, if◌then◌else◌, ◌==◌, Option, Some, None, filter_map, fold, slice_get}
use Rattle.dali_record.specs.declared.records.Record.TheVariants.{Begin, Forward, Back, Solo}
use Rattle.dali_transcripts.specs.Words.{Damaged, StoreFailed}
use Rattle.dali_transcripts.specs.World.{Deed, Logs, Strays, DiesOn, Claims, GivesBack, MovesAnchor, Meets, Happening}
use Rattle.dali_transcripts.specs.Rounds.{is_on}

pub data Mark : Type 0 where
  Does : (deed : Deed) → Mark
  Latches : (region : ℕ) → Mark

pub data Entry : Type 0 where
  -- of a client, and of each value that it changes: the deed is done, by this client
  Did : (deed : Deed) → (client : ℕ) → Entry
  -- of a region and a client, which has latched it for this transaction;  has changed it under its hold;  and whose hold ends without a deed
  Latched : (region txn client : ℕ) → Entry
  Updated : (region client : ℕ) → Entry
  Freed : (region client : ℕ) → Entry
  -- of a region: the audit that began at this record passed it, and found its codeword right or not
  Passed : (region begin : ℕ) → (right : Bool) → Entry
  -- of vault and system: a frame of the log was taken;  of the vault: it is flushed
  Took : Entry
  Flushed : Entry
  -- of vault and system: a checkpoint keeps the head;  of vault and region: it copies the region, or skips it;  of the vault: it writes to an image
  Kept : Entry
  Copied : (region : ℕ) → Entry
  Wrote : Entry

abbrev pub Entries : Type 0
Entries = List (List ℕ × Entry)

abbrev pub At : Entries → ℕ → List ℕ × Entry → Type 0
At H i p = slice_get H i ≡ Some p

-- ---- who signs it
abbrev pub system_note : ℕ
system_note = 0

abbrev pub vault_note : ℕ
vault_note = 1

abbrev pub region_note : ℕ → ℕ
region_note r = suc (suc r)

abbrev pub client_note : ℕ → ℕ → ℕ
client_note n c = suc (suc (n + c))

abbrev pub region_of : Deed → Option ℕ
region_of (Logs (Forward t b)) = Some b.region
region_of (Logs (Back t b)) = Some b.region
region_of (Logs (Solo n t b)) = Some b.region
region_of (DiesOn t r) = Some r
region_of (GivesBack t latched) = latched
region_of (Meets (Damaged r codeword found)) = Some r
region_of x = None

abbrev pub note_in : Option ℕ → List ℕ
note_in (Some r) = region_note r ∷ []
note_in None = []

abbrev pub values_of : Deed → List ℕ
values_of (Strays r word mask) = region_note r ∷ []
values_of (MovesAnchor number) = vault_note ∷ []
values_of (Meets StoreFailed) = system_note ∷ vault_note ∷ []
values_of x = system_note ∷ note_in (region_of x)

abbrev pub notes_of : ℕ → Entry → List ℕ
notes_of n (Did x c) = client_note n c ∷ values_of x
notes_of n (Latched r t c) = client_note n c ∷ region_note r ∷ []
notes_of n (Updated r c) = client_note n c ∷ region_note r ∷ []
notes_of n (Freed r c) = client_note n c ∷ region_note r ∷ []
notes_of n (Passed r b right) = region_note r ∷ []
notes_of n Took = system_note ∷ vault_note ∷ []
notes_of n Flushed = vault_note ∷ []
notes_of n Kept = system_note ∷ vault_note ∷ []
notes_of n (Copied r) = region_note r ∷ vault_note ∷ []
notes_of n Wrote = vault_note ∷ []

-- ---- what they tell
abbrev pub deed_in : List ℕ × Entry → Option Happening
deed_in (k, Did x c) = Some (x, c)
deed_in p = None

abbrev pub deeds_of : Entries → List Happening
deeds_of H = filter_map deed_in H

abbrev pub done_in : ℕ → List ℕ × Entry → Option Mark
done_in c (k, Did x d) = if d == c then Some (Does x) else None
done_in c (k, Latched r t d) = if d == c then Some (Latches r) else None
done_in c p = None

abbrev pub done_by : ℕ → Entries → List Mark
done_by c H = filter_map (done_in c) H

abbrev pub on_in : ℕ → List ℕ × Entry → Option Happening
on_in r (k, Did x c) = if is_on r x then Some (x, c) else None
on_in r p = None

abbrev pub on : ℕ → Entries → List Happening
on r H = filter_map (on_in r) H

abbrev pub live_step : ℕ → Option (ℕ × ℕ) → List ℕ × Entry → Option (ℕ × ℕ)
live_step r o (k, Did x c) = if is_on r x then None else o
live_step r o (k, Latched q t c) = if q == r then Some (t, c) else o
live_step r o (k, Freed q c) = if q == r then None else o
live_step r o p = o

abbrev pub live_by : ℕ → Entries → Option (ℕ × ℕ)
live_by r H = fold (live_step r) None H

abbrev pub opener_step : ℕ → Option ℕ → List ℕ × Entry → Option ℕ
opener_step t o (k, Did (Logs (Begin u)) c) = if u == t then Some c else o
opener_step t o p = o

abbrev pub opener_by : ℕ → Entries → Option ℕ
opener_by t H = fold (opener_step t) None H

abbrev pub actor_step : ℕ → Option ℕ → List ℕ × Entry → Option ℕ
actor_step t o (k, Did (Logs (Begin u)) c) = if u == t then Some c else o
actor_step t o (k, Did (Claims u) c) = if u == t then Some c else o
actor_step t o p = o

abbrev pub actor_by : ℕ → Entries → Option ℕ
actor_by t H = fold (actor_step t) None H
