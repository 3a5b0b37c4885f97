-- Header blocks one after another.
use Rattle.std.proofs.Common.{◌≡◌, ◌+◌, Bool, true, false, ◌&&◌, Some, None, cond, not, nat_lt, List, [], ◌∷◌, ◌++◌, map, refl, ap}
use Rattle.std.proofs.lemmas.List.{length-map}
use Rattle.std.specs.List.{position, prefix_len}
use Rattle.ba_tree.specs.declared.trees.Tree.{Tree}
use Rattle.std.proofs.Common.{Result, subst}
use Rattle.ba_soap.specs.declared.headers.Envelope.{Envelope}
use Rattle.ba_soap.specs.declared.headers.SoapFault.{SoapFault}
use Rattle.ba_soap.specs.Envelopes.{Dialect, IsSoapAnswer, answer_by_body, first_invalid_header, header_of, invalid_header, first_fault}

prefix_map : {X Y : Type 0} (p : Y → Bool) (f : X → Y) (xs : List X) → prefix_len p (map f xs) ≡ prefix_len (λ x. p (f x)) xs
prefix_map p f [] = refl
prefix_map p f (x ∷ xs) = ap (λ n. cond (p (f x)) (1 + n) 0) (prefix_map p f xs)

pub position_map : {X Y : Type 0} (p : Y → Bool) (f : X → Y) (xs : List X) → position p (map f xs) ≡ position (λ x. p (f x)) xs
position_map p f xs = λ i. cond (nat_lt (prefix_map (λ y. not (p y)) f xs i) (length-map xs f i))
    (Some (prefix_map (λ y. not (p y)) f xs i)) None

pub first_invalid_step : (before : List Tree) (b : Tree) (more : List Tree)
    → first_invalid_header before (b ∷ more) ≡ first_fault (invalid_header (header_of b) before b)
    (first_invalid_header (before ++ b ∷ []) more)
first_invalid_step before b more = refl

pub same_blocks : (d : Dialect) (xs ys es : List Tree) → xs ≡ ys → (r : Result Envelope SoapFault) → IsSoapAnswer (answer_by_body d xs es) r
    → IsSoapAnswer (answer_by_body d ys es) r
same_blocks d xs ys es e r h = subst (λ blocks. IsSoapAnswer (answer_by_body d blocks es) r) e h

pub in_either_order : (a b : Bool) → (a && b) ≡ (b && a)
in_either_order true true = refl
in_either_order true false = refl
in_either_order false true = refl
in_either_order false false = refl
