-- In each epoch of a history the undos that a restart performs find their slots as they were left.
use Rattle.std.proofs.Common.{ℕ, List, [], ◌∷◌, refl, arith}
use Rattle.std.proofs.lemmas.List.Elements.{Contains-append_right}
use Rattle.dali_record.specs.Epochs.{cut, last_epoch}
use Rattle.dali_record.specs.Legal.{sizes_of}
use Rattle.dali_history.specs.Marked.{kept_of}
use Rattle.dali_history.specs.Recovered.{base_of}
use Rattle.dali_history.specs.History.{IsHistory}
use Rattle.dali_history.specs.Headline.Bridge.{cuts_of, EpochIsKept}
use Rattle.dali_history.proofs.HeadlineLemmas.KeptEpochs.{history_is_kept}
use Rattle.dali_history.proofs.HeadlineLemmas.EpochByEpoch.{base_holds}
use Rattle.dali_record.specs.declared.records.Record.{Record}
use Rattle.dali_record.specs.Epochs.{Epoch}
use Rattle.dali_history.specs.Undone.AsLeft.{IsEpochOn, EpochUndosFind, EpochMomentsFind, EpochBacksFind, RestartUndosFind}
use Rattle.dali_history.proofs.UndoneLemmas.Found.{order_finds, kept_undos_find, backs_find}

epoch_kept : (L : List Record) (e : Epoch) (base : List (List ℕ)) → IsEpochOn L e base → EpochIsKept (sizes_of L) base e
epoch_kept L e base h = history_is_kept L base e h.history h.epoch h.honest h.holds.image_is h.holds.indexed h.holds.tidy

pub epoch_undos_find : EpochUndosFind
epoch_undos_find L e base h order permutes =
    let epoch : EpochIsKept (sizes_of L) base e = epoch_kept L e base h in
    order_finds (sizes_of L) base (cuts_of e) (kept_of e) order epoch.kept (rw epoch.losers_are at permutes)

pub epoch_moments_find : EpochMomentsFind
epoch_moments_find L e base h = kept_undos_find (sizes_of L) base (cuts_of e) (kept_of e) (epoch_kept L e base h).kept

pub epoch_backs_find : EpochBacksFind
epoch_backs_find L e base h = backs_find (sizes_of L) base (cuts_of e) (kept_of e) (epoch_kept L e base h).kept

-- the last epoch, over the base of its log
pub last_on : (L : List Record) → IsHistory L → IsEpochOn L (last_epoch L) (base_of (sizes_of L) L)
last_on L history =
    let b = base_holds L history in
    record { history = history; epoch = Contains-append_right (cut L).closed ((cut L).now ∷ []) (cut L).now (0, omega arith, refl); honest = b.3; map = b.0; holds = b.2 }

pub restart_undos_find : RestartUndosFind
restart_undos_find L history order permutes = epoch_undos_find L (last_epoch L) (base_of (sizes_of L) L) (last_on L history) order permutes
