-- A link that begins fits: for the law `links_begin_possible`.
use Rattle.std.proofs.Common.{◌≡◌, Bool, List, [], ◌∷◌, refl, sym, subst}
use Rattle.std.specs.List.{AllByRecursion}
use Rattle.ba_core.specs.declared.protocols.Protocol.{Protocol}
use Rattle.ba_core.specs.declared.protocols.Protocol.TheVariants.{Pc, Cc}
use Rattle.ba_link.specs.Fits.{LinkFits, MessageFits}
use Rattle.ba_link.specs.Link.{LinkState, Message, register, registering_link, active_link}

-- a Register says nothing of a link
registers_fit : (l : LinkState) (sent : List Message) → AllByRecursion (λ m. m ≡ register) sent → AllByRecursion (MessageFits l) sent
registers_fit l [] all = tt
registers_fit l (m ∷ sent) all = (subst (MessageFits l) (sym all.0) refl, registers_fit l sent all.1)

pub registering_link_fits : (protocol : Protocol) (sealed : Bool) (sent : List Message) → AllByRecursion (λ m. m ≡ register) sent
    → LinkFits (registering_link protocol sealed sent)
registering_link_fits protocol sealed sent all = record {
  pair = refl;
  verdict = refl;
  messages = registers_fit (registering_link protocol sealed sent).state sent all;
}

pub active_link_fits : (protocol : Protocol) (sealed : Bool) → LinkFits (active_link protocol sealed)
active_link_fits Pc sealed = record { pair = refl; verdict = refl; messages = tt }
active_link_fits Cc sealed = record { pair = refl; verdict = refl; messages = tt }
