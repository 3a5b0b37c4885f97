-- The states of a pair that fits are states of its protocol.
use Rattle.std.proofs.Common.{◌≡◌, true, false, IsTrue, refl}
use Rattle.ba_core.specs.EndRows.{is_end_state}
use Rattle.ba_core.specs.PartRows.{is_part_state}
use Rattle.ba_core.specs.declared.protocols.Protocol.{Protocol}
use Rattle.ba_core.specs.declared.protocols.Protocol.TheVariants.{Pc, Cc}
use Rattle.ba_core.specs.declared.states.How.TheVariants.{Canceled, Refused}
use Rattle.ba_core.specs.declared.states.CState.{CState}
use Rattle.ba_core.specs.declared.states.CState.TheVariants as end
use Rattle.ba_core.specs.declared.states.PState.{PState}
use Rattle.ba_core.specs.declared.states.PState.TheVariants as part
use Rattle.ba_link.specs.Pairs.{partners}
use Rattle.ba_link.specs.States.{part_among}
use Rattle.ba_pair.specs.PairState.{PairState, PairFits}

-- a state of an end that goes with some state of a participant is one of the protocol
end_of_pc : (s : CState) (t : PState) → part_among (partners Pc s) t ≡ true → is_end_state Pc s ≡ true
end_of_pc end.Completing t h = h
end_of_pc end.CancelingActive t h = h
end_of_pc end.CancelingCompleting t h = h
end_of_pc end.FailingCompleting t h = h
end_of_pc (end.Ended Refused) t h = h
end_of_pc s t h = refl

end_of_cc : (s : CState) (t : PState) → part_among (partners Cc s) t ≡ true → is_end_state Cc s ≡ true
end_of_cc end.Canceling t h = h
end_of_cc (end.Ended Refused) t h = h
end_of_cc s t h = refl

end_of : (p : Protocol) (s : CState) (t : PState) → part_among (partners p s) t ≡ true → is_end_state p s ≡ true
end_of Pc s t h = end_of_pc s t h
end_of Cc s t h = end_of_cc s t h

-- two states of participants are of CoordinatorCompletion alone, and go with no end of ParticipantCompletion
completing_of_cc : (s : CState) → part_among (partners Pc s) part.Completing ≡ true → false ≡ true
completing_of_cc end.Active h = h
completing_of_cc (end.Ended Canceled) h = h
completing_of_cc s h = h

failing_completing_of_cc : (s : CState) → part_among (partners Pc s) part.FailingCompleting ≡ true → false ≡ true
failing_completing_of_cc end.Active h = h
failing_completing_of_cc (end.Ended Canceled) h = h
failing_completing_of_cc s h = h

part_of_pc : (s : CState) (t : PState) → part_among (partners Pc s) t ≡ true → is_part_state Pc t ≡ true
part_of_pc s part.Completing h = completing_of_cc s h
part_of_pc s part.FailingCompleting h = failing_completing_of_cc s h
part_of_pc s (part.Ended Canceled) h = refl
part_of_pc s t h = refl

part_of_cc : (t : PState) → is_part_state Cc t ≡ true
part_of_cc part.Active = refl
part_of_cc (part.Ended Canceled) = refl
part_of_cc t = refl

part_of : (p : Protocol) (s : CState) (t : PState) → part_among (partners p s) t ≡ true → is_part_state p t ≡ true
part_of Pc s t h = part_of_pc s t h
part_of Cc s t h = part_of_cc t

pub end_state : (w : PairState) → PairFits w → IsTrue (is_end_state w.protocol w.end)
end_state w fits = end_of w.protocol w.end w.part fits.link.pair

pub part_state : (w : PairState) → PairFits w → IsTrue (is_part_state w.protocol w.part)
part_state w fits = part_of w.protocol w.end w.part fits.link.pair
