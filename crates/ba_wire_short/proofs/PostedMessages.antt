-- What is posted and what is replied is numbered where it has to be, and its times fit; a reply can be encoded: for `decode`.
use Rattle.std.proofs.Common.{◌≡◌, ℕ, ◌^◌, ◌<◌, Bool, true, false, not, ◌||◌, List, [], Option, Some, None, IsTrue, IfSome}
use Rattle.std.proofs.Common.{refl, sym, subst, arith}
use Rattle.ba_message.proofs.PlainTexts.{plain_is_bare, plain_is_legal}
use Rattle.ba_message.specs.Letters.{IsIdentifier, IsPostableMessage, IsReply, IsReplyContext}
use Rattle.ba_message.specs.declared.messages.Context.{Context}
use Rattle.ba_message.specs.declared.messages.Letter.{Letter}
use Rattle.ba_message.specs.declared.messages.Message.{Message}
use Rattle.ba_message.specs.declared.messages.Message.TheVariants as message
use Rattle.ba_wire_limits.proofs.EncodedReplies.{reply_can_be_encoded}
use Rattle.ba_wire_limits.proofs.NumberUrns.{urn_length, urn_plain}
use Rattle.ba_wire_limits.proofs.PostedLetters as posted
use Rattle.ba_tree.specs.declared.trees.Tree.{Tree}
use Rattle.ba_wire.specs.Contexts.{TimeFits}
use Rattle.ba_wire.specs.Elements.{body_of_message}
use Rattle.ba_wire.specs.Envelopes.{CanEncode, TimesFit, is_numbered}
use Rattle.ba_wire.specs.Meaning.{asks_for_reply}
use Rattle.ba_wire.specs.Routes.{number_urn, route_of}
use Rattle.ba_wire.specs.declared.routes.Route.{Route}

-- ---- letters, as the laws on them have it

pub letter_numbered : (l : Letter) → IsTrue (is_numbered (route_of l) l.message)
letter_numbered = posted.letter_numbered

pub postable_times : (m : Message) → IsPostableMessage m → TimesFit m
postable_times = posted.postable_times

-- ---- replies

pub urn_identifier : (n : ℕ) → IsIdentifier (number_urn n)
urn_identifier n =
    let long = urn_length n in
    record {
      named = omega arith;
      short = omega arith;
      bare = plain_is_bare (number_urn n) (urn_plain n);
      legal = plain_is_legal (number_urn n) (urn_plain n);
    }

pub reply_numbered : (r : Route) (m : Message) → IsReply m → IsTrue (is_numbered r m)
reply_numbered r (message.Create expires current kind up) p = absurd p
reply_numbered r (message.Created context) p = refl
reply_numbered r (message.Register protocol participant) p = absurd p
reply_numbered r (message.Registered coordinator) p = refl
reply_numbered r (message.Notice n) p = absurd p
reply_numbered r (message.Fault c) p = refl

time_fits : (c : Context) → IsReplyContext c → TimeFits c.expires
time_fits c is = by c.expires is.expires
  where
    by : (time : Option ℕ) → IfSome time (λ n. n < 2 ^ 32) → TimeFits time
    by None p = tt
    by (Some n) p = omega arith

pub reply_times : (m : Message) → IsReply m → TimesFit m
reply_times (message.Create expires current kind up) p = absurd p
reply_times (message.Created context) p = time_fits context p
reply_times (message.Register protocol participant) p = tt
reply_times (message.Registered coordinator) p = tt
reply_times (message.Notice n) p = tt
reply_times (message.Fault c) p = tt

abbrev pub answer_route : List ℕ → List Tree → Route
answer_route urn trees = record { to = None; message_id = None; relates_to = Some urn; parameters = trees }

pub answer_encodes : (n : ℕ) (urn : List ℕ) (trees : List Tree) (m : Message) → urn ≡ number_urn n → trees ≡ [] → IsReply m
    → CanEncode (answer_route urn trees) m
answer_encodes n urn trees m written none is =
    let numbered : CanEncode (answer_route (number_urn n) []) m = reply_can_be_encoded (Some (number_urn n)) (urn_identifier n) m is in
    let plain : CanEncode (answer_route (number_urn n) trees) m =
    subst (λ (ts : List Tree). CanEncode (answer_route (number_urn n) ts) m) (sym none) numbered in
    subst (λ (text : List ℕ). CanEncode (answer_route text trees) m) (sym written) plain
