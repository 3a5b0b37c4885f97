-- Believe: these are the bodies that messages have, the name of each element, and the action that goes with it
-- (WS-Addressing 1.0, section 3; WS-Coordination 1.2; WS-BusinessActivity 1.2).
use Rattle.std.specs.Prelude.{bytes_eq, ℕ, Bool, false, List, [], ◌∷◌, ◌++◌, Option, Some, None, find, codes}
use Rattle.ba_core.specs.Messages.{notice_name}
use Rattle.ba_core.specs.declared.notices.Notice.TheVariants as notice
use Rattle.ba_tree.specs.Namespaces.{soap_space, wsa_space, wsba_space, wscoor_space}
use Rattle.ba_wire.specs.declared.bodies.Body.{Body}
use Rattle.ba_wire.specs.declared.bodies.Body.TheVariants as body

abbrev pub body_space : Body → List ℕ
body_space (body.Notice n) = wsba_space
body_space body.Status = wsba_space
body_space body.Fault = soap_space
body_space b = wscoor_space

abbrev pub body_name : Body → List ℕ
body_name body.Create = codes "CreateCoordinationContext"
body_name body.Created = codes "CreateCoordinationContextResponse"
body_name body.Register = codes "Register"
body_name body.Registered = codes "RegisterResponse"
body_name body.Status = codes "Status"
body_name (body.Notice n) = notice_name n
body_name body.Fault = codes "Fault"

-- the bodies that an action names: all but faults
abbrev pub bodies : List Body
bodies =
    body.Notice notice.Complete ∷ body.Notice notice.Close ∷ body.Notice notice.Cancel ∷ body.Notice notice.Compensate
    ∷ body.Notice notice.Failed ∷ body.Notice notice.Exited ∷ body.Notice notice.NotCompleted
    ∷ body.Notice notice.Completed ∷ body.Notice notice.Closed ∷ body.Notice notice.Canceled ∷ body.Notice notice.Compensated
    ∷ body.Notice notice.Fail ∷ body.Notice notice.Exit ∷ body.Notice notice.CannotComplete ∷ body.Notice notice.GetStatus
    ∷ body.Status ∷ body.Create ∷ body.Created ∷ body.Register ∷ body.Registered ∷ []

-- the namespace of the body element, a slash and its name
abbrev pub element_uri : Body → List ℕ
element_uri b = body_space b ++ (codes "/" ++ body_name b)

-- the action of a body; a fault has one of `fault_actions`, whatever its element
abbrev pub action_of : Body → Option (List ℕ)
action_of body.Fault = None
action_of b = Some (element_uri b)

abbrev pub has_action : List ℕ → Option (List ℕ) → Bool
has_action uri None = false
has_action uri (Some action) = bytes_eq uri action

abbrev pub body_of : List ℕ → Option Body
body_of uri = find (λ b. has_action uri (action_of b)) bodies

-- the actions of faults: of codes of SOAP, of WS-Coordination and of WS-Addressing
abbrev pub fault_actions : List (List ℕ)
fault_actions = (wsa_space ++ codes "/soap/fault") ∷ (wscoor_space ++ codes "/fault") ∷ (wsa_space ++ codes "/fault") ∷ []
