-- Believe: the route of a reply, which goes back on the connection on which its request came.
use Rattle.std.specs.Prelude.{ℕ, List, [], Option, None}
use Rattle.ba_wire.specs.declared.routes.Route.{Route}

-- to which message it replies, if that is said
abbrev pub reply_route : Option (List ℕ) → Route
reply_route related = record { to = None; message_id = None; relates_to = related; parameters = [] }
