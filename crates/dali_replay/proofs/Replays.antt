-- The replay of a log, put together.
use Rattle.std.proofs.Common.{◌≡◌, ℕ, Bool, true, false, cond, List, [], ◌∷◌, Option, Some, None, refl, ap, sym, subst, ◌∙◌}
use Rattle.std.specs.Prelude.{◌↔◌, Contains, filter, fold, is_some, not}
use Rattle.std.specs.Cmp.{nat_cmp_total}
use Rattle.std.specs.Ordering.{nat_cmp}
use Rattle.std.specs.Map.{lookup}
use Rattle.std.specs.BTreeMap.{is_at}
use Rattle.std.specs.FinMap.{from_entries, get, find, get-from_entries}
use Rattle.std.specs.List.Sorted.{IsStrictlyIncreasing}
use Rattle.std.proofs.lemmas.List.Elements.{filter_agree}
use Rattle.std.proofs.lemmas.Bool.{both_ways}
use Rattle.dali_lists.proofs.Tests.{same_tests}
use Rattle.dali_record.specs.declared.records.Record.{Record}
use Rattle.dali_record.specs.Damage.{has}
use Rattle.dali_record.specs.declared.records.Call.{Call}
use Rattle.dali_record.specs.declared.records.Answer.{Answer}
use Rattle.dali_record.specs.Log.{calls_of, committed}
use Rattle.dali_history.specs.Serial.{Map, empty_map, map_after, call_step, calls_after, is_deleted, survivors, expected}
use Rattle.dali_history.specs.Acknowledged.{IsDeletedByChain}
use Rattle.dali_history.proofs.Members.{Contains-from_has, has_from_Contains}
use Rattle.dali_history.proofs.Chained.{is_deleted_is_chain}
use Rattle.dali_replay.specs.Walking.{Walk, start, then_walk, stepped, call_made, calls_made, serial_made}
use Rattle.dali_replay.specs.Following.{value_at, Comes, Follows, survive_among}
use Rattle.dali_replay.specs.Replayed.{IsReplay}
use Rattle.dali_replay.proofs.Follows.{calls_then}

pub find_lookup : (es : List (ℕ × List ℕ)) (q : ℕ) → find nat_cmp q es ≡ lookup (is_at (nat_cmp q)) es
find_lookup [] q = refl
find_lookup (e ∷ es) q = ap (cond (is_at (nat_cmp q) e.0) (Some e.1)) (find_lookup es q)

get_entries : (es : List (ℕ × List ℕ)) (q : ℕ) → get (from_entries {R = nat_cmp} es) q ≡ value_at es q
get_entries es q = get-from_entries nat_cmp_total es q ∙ find_lookup es q

among : (L : List Record) (ds : List ℕ) → ((t : ℕ) → Contains ds t ↔ IsDeletedByChain L t) → (t : ℕ) → has ds t ≡ is_deleted L t
among L ds is t = same_tests (has ds t) (is_deleted L t) (λ h. (is_deleted_is_chain L t).1 ((is t).0 (Contains-from_has ds t h))) (λ h. has_from_Contains ds t ((is t).1 ((is_deleted_is_chain L t).0 h)))

survive : (L : List Record) (ds : List ℕ) → ((t : ℕ) → Contains ds t ↔ IsDeletedByChain L t) → survive_among ds (committed L) ≡ survivors L
survive L ds is = filter_agree (λ t. not (has ds t)) (λ t. not (is_deleted L t)) (λ t. ap not (among L ds is t)) (committed L)

-- ---- a walk tells whether there is a map, and which
abbrev told : Map → Bool → Option Map
told m true = Some m
told m false = None

abbrev told_of : Walk → Option Map
told_of w = told w.map w.agrees

told_step : (m : Map) (o : Option Map) → o ≡ told_of (stepped m o)
told_step m None = refl
told_step m (Some n) = refl

told_call : (m : Map) (ok : Bool) (p : Call × Answer) → call_step (told m ok) p ≡ told_of (then_walk (record { map = m; agrees = ok }) (λ n. call_made n p))
told_call m true p = told_step m (map_after m p.0 p.1)
told_call m false p = refl

told_calls : (w : Walk) (cs : List (Call × Answer)) → calls_after (told_of w) cs ≡ told_of (fold (λ v p. then_walk v (λ n. call_made n p)) w cs)
told_calls w [] = refl
told_calls w (p ∷ ps) = ap (λ o. calls_after o ps) (told_call w.map w.agrees p) ∙ told_calls (then_walk w (λ n. call_made n p)) ps

told_serial : (w : Walk) (ts : List ℕ) (L : List Record) → fold (λ o t. calls_after o (calls_of t L)) (told_of w) ts ≡ told_of (fold (λ v t. then_walk v (λ n. calls_made n (calls_of t L))) w ts)
told_serial w [] L = refl
told_serial w (t ∷ ts) L =
    ap (λ o. fold (λ q u. calls_after q (calls_of u L)) o ts) (told_calls w (calls_of t L) ∙ ap told_of (calls_then w (calls_of t L)))
    ∙ told_serial (then_walk w (λ n. calls_made n (calls_of t L))) ts L

agrees_so : (m : Map) (ok : Bool) → ok ≡ is_some (told m ok)
agrees_so m true = refl
agrees_so m false = refl

map_so : (n : Map) (ok : Bool) (m : Map) → told n ok ≡ Some m → n ≡ m
map_so n true m e = cc
map_so n false m e = absurd (cc)

pub replay_is : (L : List Record) (ds : List ℕ) (es : List (ℕ × List ℕ)) (ok : Bool) → ((t : ℕ) → Contains ds t ↔ IsDeletedByChain L t) → IsStrictlyIncreasing ds → Follows (λ m. serial_made m (survive_among ds (committed L)) L) [] es ok → IsReplay L (record { map = from_entries {R = nat_cmp} es; deleted = ds; agrees = ok })
replay_is L ds es ok is up follows = record {
  agrees = comes.0 ∙ agrees_so walk.map walk.agrees ∙ ap is_some (sym same);
  map = λ m e k. held k ∙ ap (λ (n : Map). n k) (map_so walk.map walk.agrees m (sym same ∙ e));
  so_far = held;
  deleted = is;
  ascends = up;
}
  where
    walk : Walk
    walk = serial_made empty_map (survivors L) L

    same : expected L ≡ told_of walk
    same = told_serial (start empty_map) (survivors L) L

    comes : Comes walk es ok
    comes = subst (λ ts. Comes (serial_made empty_map ts L) es ok) (survive L ds is) (follows empty_map (λ k. refl))

    held : (k : ℕ) → get (from_entries {R = nat_cmp} es) k ≡ walk.map k
    held k = get_entries es k ∙ comes.1 k
