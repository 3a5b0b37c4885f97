-- The base of a node's addresses in a play is one, so that a world of a play can start; for the law that plays stay safe.
use Rattle.std.proofs.Common.{◌≡◌, inl, ℕ, ◌<◌, ◌≤◌, ◌^◌, Bool, true, false, ◌||◌, ◌&&◌, List, [], ◌∷◌, ◌++◌, length, codes, refl, sym, ap}
use Rattle.std.proofs.Common.{arith, decimal}
use Rattle.std.specs.List.{list_all}
use Rattle.std.specs.Str.Parse.{AllDigits}
use Rattle.std.proofs.lemmas.Bool.Decides.{nat_tests}
use Rattle.std.proofs.lemmas.Fmt.{decimal_is_IsNumeral, length-decimal-le}
use Rattle.std.proofs.lemmas.List.{append-nil}
use Rattle.std.proofs.lemmas.Str.Parse.{digit_from_value}
use Rattle.ba_message.specs.Addresses.{IsDialable, IsHost, is_host_byte}
use Rattle.ba_world_play.specs.Plays.{node_base}
use Rattle.ba_record.specs.Coding.{InRange}
use Rattle.ba_record.specs.declared.records.Record.TheVariants as journal
use Rattle.ba_tree.specs.Names.{is_digit, is_letter}

digit_is : (c : ℕ) → 48 ≤ c → c ≤ 57 → is_digit c ≡ true
digit_is c low high = grind (arith, nat_tests)

or_right : (a b c : Bool) → b ≡ true → ((a || b) || c) ≡ true
or_right true b c h = refl
or_right false true c h = refl
or_right false false c h = absurd cc

both : (a b : Bool) → a ≡ true → b ≡ true → (a && b) ≡ true
both true true h k = refl
both true false h k = k
both false b h k = h

hosts : (ds : List ℕ) → AllDigits 10 ds → list_all is_host_byte ds ≡ true
hosts [] all = refl
hosts (c ∷ ds) all =
    let range = digit_from_value c all.0 in
    both (is_host_byte c) (list_all is_host_byte ds)
    (or_right (is_letter c) (is_digit c) _ (digit_is c (omega (arith, range)) (omega (arith, range)))) (hosts ds all.1)

abbrev pub host_of : ℕ → List ℕ
host_of k = codes "node" ++ decimal k

pub is_host : (k : ℕ) → k < 2 ^ 32 → IsHost (host_of k)
is_host k small =
    let digits = decimal_is_IsNumeral k (omega (arith, small)) in
    let short : length (decimal k) ≤ 10 = length-decimal-le 10 k (omega arith) (omega (arith, small)) (omega (arith, small)) in
    (hosts (decimal k) digits.0.1, omega arith, omega (arith, short))

is_dialed : (k : ℕ) → k < 2 ^ 32 → IsDialable (node_base k)
is_dialed k small =
    let short : length (decimal k) ≤ 10 = length-decimal-le 10 k (omega arith) (omega (arith, small)) (omega (arith, small)) in
    record {
      host = host_of k;
      port = [];
      path = [];
      spelled = ap (λ (l : List ℕ). codes "http://node" ++ l) (sym (append-nil (decimal k)));
      is_host = is_host k small;
      is_port = inl refl;
      is_path = inl refl;
      short = omega (arith, short);
    }

pub base_in_range : (k : ℕ) → 1 ≤ k → k < 2 ^ 32 → InRange (journal.Node k (node_base k))
unfolding is_dialed
base_in_range k from small = ((from, small), record { dialable = is_dialed k small; pathless = refl })
