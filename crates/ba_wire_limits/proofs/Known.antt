-- The action of each message is brief, and notices and codes other than Other are known: for the laws on letters and replies.
use Rattle.std.proofs.Common.{◌≡◌, ◌≢◌, true, refl}
use Rattle.ba_core.specs.declared.codes.Code.{Code}
use Rattle.ba_core.specs.declared.codes.Code.TheVariants as code
use Rattle.ba_core.specs.declared.notices.Notice.{Notice}
use Rattle.ba_core.specs.declared.notices.Notice.TheVariants as notice
use Rattle.ba_core.specs.declared.states.StateName.TheVariants as state
use Rattle.ba_message.specs.declared.messages.Message.{Message}
use Rattle.ba_message.specs.declared.messages.Message.TheVariants as message
use Rattle.ba_wire.specs.Envelopes.{action_for, fault_action, is_known_code, has_known_state}
use Rattle.ba_wire.specs.Elements.{family_of}
use Rattle.ba_wire.specs.declared.elements.Family.{Family}
use Rattle.ba_wire.specs.declared.elements.Family.TheVariants as family
use Rattle.ba_wire_limits.proofs.BriefTexts.{is_brief}

pub known_notice : (n : Notice) → n ≢ notice.Status state.Other → has_known_state n ≡ true
known_notice (notice.Status state.Other) h = absurd (h refl)
known_notice n h = refl

pub known_code : (c : Code) → c ≢ code.Other → is_known_code c ≡ true
known_code code.Other h = absurd (h refl)
known_code c h = refl

notice_action : (n : Notice) → is_brief (action_for (message.Notice n)) ≡ true
notice_action (notice.Status s) = refl
notice_action n = refl

family_action : (f : Family) → is_brief (fault_action f) ≡ true
family_action family.Soap = refl
family_action family.Coordination = refl
family_action family.Addressing = refl

pub brief_action : (m : Message) → is_brief (action_for m) ≡ true
brief_action (message.Create expires current kind up) = refl
brief_action (message.Created context) = refl
brief_action (message.Register protocol participant) = refl
brief_action (message.Registered coordinator) = refl
brief_action (message.Notice n) = notice_action n
brief_action (message.Fault c) = family_action (family_of c)
