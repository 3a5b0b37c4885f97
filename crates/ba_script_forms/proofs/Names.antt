-- What it is for a word to be the name of an object.
use Rattle.std.proofs.Common.{◌≡◌, ◌≢◌, ℕ, ◌+◌, ◌<◌, ◌^◌, Bool, true, false, true≢false, nat_eq, ne_eqb, if◌then◌else◌, Option, None, Some}
use Rattle.std.proofs.Common.{IfSome, IfNone, List, [], ◌∷◌, ◌++◌, codes, refl, sym, ap, ◌∙◌, arith}
use Rattle.std.specs.Fmt.{decimal}
use Rattle.std.specs.List.{AllByRecursion}
use Rattle.std.specs.Str.Parse.{AllDigits, digits_value}
use Rattle.std.proofs.lemmas.Bool.{eqb-true, eq-eqb}
use Rattle.std.proofs.lemmas.Fmt.{decimal_is_IsNumeral}
use Rattle.std.proofs.lemmas.Str.Parse.{digit_from_value}
use Rattle.ba_core.specs.Numbers.{node_of, counter_of, id_of}
use Rattle.ba_core.specs.Texts.{id_text}
use Rattle.ba_core.specs.declared.identifiers.Id.{Id}
use Rattle.ba_world_events.specs.Events.{IsObject}
use Rattle.ba_ports.specs.Lines.{onto_first}
use Rattle.ba_script_forms.specs.Grammar.{parted, is_number_between, are_name, name, number, fits, most_32, most_64}
use Rattle.ba_script_forms.proofs.Fits.{both, first_of, second_of, not_true, number_fits, number_of_fit}

-- none of the bytes is this one
abbrev pub Lacks : ℕ → List ℕ → Type 0
Lacks byte bytes = AllByRecursion (λ b. b ≢ byte) bytes

pub part_step : (byte b : ℕ) (bytes : List ℕ) → b ≢ byte → parted byte (b ∷ bytes) ≡ onto_first b (parted byte bytes)
part_step byte b bytes other =
    ap (λ t. if t then [] ∷ parted byte bytes else onto_first b (parted byte bytes)) (ne_eqb b byte other)

pub part_ended : (byte : ℕ) (word rest : List ℕ) → Lacks byte word → parted byte (word ++ byte ∷ rest) ≡ word ∷ parted byte rest
part_ended byte [] rest clear = ap (λ t. if t then [] ∷ parted byte rest else onto_first byte (parted byte rest)) (same_byte byte)
  where
    same_byte : (n : ℕ) → nat_eq n n ≡ true
    same_byte n = eq-eqb n n refl
part_ended byte (b ∷ word) rest clear =
    part_step byte b (word ++ byte ∷ rest) clear.0 ∙ ap (onto_first b) (part_ended byte word rest clear.1)

pub part_last : (byte : ℕ) (word : List ℕ) → Lacks byte word → parted byte word ≡ word ∷ []
part_last byte [] clear = refl
part_last byte (b ∷ word) clear = part_step byte b word clear.0 ∙ ap (onto_first b) (part_last byte word clear.1)

-- the bytes that have these parts
abbrev pub joined : ℕ → List (List ℕ) → List ℕ
joined byte [] = []
joined byte (word ∷ []) = word
joined byte (word ∷ next ∷ words) = word ++ byte ∷ joined byte (next ∷ words)

joined_first : (byte b : ℕ) (word : List ℕ) (words : List (List ℕ)) → joined byte ((b ∷ word) ∷ words) ≡ b ∷ joined byte (word ∷ words)
joined_first byte b word [] = refl
joined_first byte b word (next ∷ words) = refl

-- there is a first part
pub record HasFirst (words : List (List ℕ)) : Type 0 where
  pub first : List ℕ
  pub others : List (List ℕ)
  pub is : words ≡ first ∷ others

pub parted_some : (byte : ℕ) (bytes : List ℕ) → HasFirst (parted byte bytes)
parted_some byte [] = record { first = []; others = []; is = refl }
parted_some byte (b ∷ bytes) =
    let rest = parted_some byte bytes in
    elim (nat_eq b byte) as (λ t. HasFirst (if t then [] ∷ parted byte bytes else onto_first b (parted byte bytes))) [
      | true ↦ record { first = []; others = parted byte bytes; is = refl }
      | false ↦ record { first = b ∷ rest.first; others = rest.others; is = ap (onto_first b) rest.is }
    ]

joined_after : (byte b : ℕ) (bytes : List ℕ) (t : Bool) → nat_eq b byte ≡ t → joined byte (parted byte bytes) ≡ bytes
    → joined byte (if t then [] ∷ parted byte bytes else onto_first b (parted byte bytes)) ≡ b ∷ bytes
joined_after byte b bytes true same rest =
    let some = parted_some byte bytes in
    ap (λ ws. joined byte ([] ∷ ws)) some.is
    ∙ ap (λ k. k ∷ joined byte (some.first ∷ some.others)) (sym (eqb-true b byte same))
    ∙ ap (λ ws. b ∷ joined byte ws) (sym some.is) ∙ ap (λ k. b ∷ k) rest
joined_after byte b bytes false other rest =
    let some = parted_some byte bytes in
    ap (λ ws. joined byte (onto_first b ws)) some.is ∙ joined_first byte b some.first some.others
    ∙ ap (λ ws. b ∷ joined byte ws) (sym some.is) ∙ ap (λ k. b ∷ k) rest

pub joined_parted : (byte : ℕ) (bytes : List ℕ) → joined byte (parted byte bytes) ≡ bytes
joined_parted byte [] = refl
joined_parted byte (b ∷ bytes) = joined_after byte b bytes (nat_eq b byte) refl (joined_parted byte bytes)

-- digits are neither dots nor spaces
digits_lack : (byte : ℕ) (digits : List ℕ) → byte < 48 → AllDigits 10 digits → Lacks byte digits
digits_lack byte [] low all = tt
digits_lack byte (d ∷ digits) low all =
    ((λ same. absurd (omega (arith, digit_from_value d all.0))), digits_lack byte digits low all.1)

pub decimal_lacks : (byte n : ℕ) → byte < 48 → n < 2 ^ 64 → Lacks byte (decimal n)
decimal_lacks byte n low small = digits_lack byte (decimal n) low (decimal_is_IsNumeral n small).0.1

-- the parts of a name
pub name_parts : (node counter : ℕ) → node < 2 ^ 32 → counter < 2 ^ 64 → parted 46 (decimal node ++ (46
    ∷ decimal counter)) ≡ decimal node ∷ decimal counter ∷ []
name_parts node counter low small =
    part_ended 46 (decimal node) (decimal counter) (decimal_lacks 46 node (omega arith) (omega arith))
    ∙ ap (λ ws. decimal node ∷ ws) (part_last 46 (decimal counter) (decimal_lacks 46 counter (omega arith) small))

pub written_name_fits : (node counter : ℕ) (word : List ℕ) → node < 2 ^ 32 → counter < 2 ^ 64 → word ≡ decimal node ++ (46
    ∷ decimal counter)
    → fits name word ≡ true
unfolding fits
written_name_fits node counter word low small is =
    ap (λ w. are_name (parted 46 w)) is ∙ ap are_name (name_parts node counter low small)
    ∙ both (is_number_between 0 most_32 (decimal node)) (is_number_between 0 most_64 (decimal counter))
    (number_fits 0 most_32 node (decimal node) refl (omega arith) (omega arith) (omega arith))
    (number_fits 0 most_64 counter (decimal counter) refl small (omega arith) (omega arith))

pub name_fits : (id : Id) (word : List ℕ) → word ≡ id_text id.0 → fits name word ≡ true
name_fits id word is = written_name_fits (node_of id.0) (counter_of id.0) word (omega arith) (omega arith) is

-- the two numbers of a name
pub record IsName (parts : List (List ℕ)) : Type 0 where
  pub node : ℕ
  pub counter : ℕ
  pub is : parts ≡ decimal node ∷ decimal counter ∷ []
  pub low : node < 2 ^ 32
  pub small : counter < 2 ^ 64

parts_name : (parts : List (List ℕ)) → are_name parts ≡ true → IsName parts
unfolding fits
parts_name [] holds = absurd (true≢false (sym holds))
parts_name (node ∷ []) holds = absurd (true≢false (sym holds))
parts_name (node ∷ counter ∷ other ∷ others) holds = absurd (true≢false (sym holds))
parts_name (node ∷ counter ∷ []) holds =
    let first = number_of_fit 0 most_32 node (first_of (is_number_between 0 most_32 node) (is_number_between 0 most_64 counter) holds) in
    let second = number_of_fit 0 most_64 counter
    (second_of (is_number_between 0 most_32 node) (is_number_between 0 most_64 counter) holds) in
    record {
      node = digits_value 10 node;
      counter = digits_value 10 counter;
      is = ap (λ w. w ∷ counter ∷ []) first.0 ∙ ap (λ w. decimal (digits_value 10 node) ∷ w ∷ []) second.0;
      low = omega arith;
      small = omega arith;
    }

pub name_of_fit : (word : List ℕ) → fits name word ≡ true → IsName (parted 46 word)
unfolding fits
name_of_fit word holds = parts_name (parted 46 word) holds

pub no_name : (word : List ℕ) → ((node counter : ℕ) → node < 2 ^ 32 → counter < 2 ^ 64
    → word ≢ decimal node ++ (codes "." ++ decimal counter))
    → fits name word ≡ false
no_name word none =
    not_true (fits name word)
    (λ holds. let found = name_of_fit word holds in
    none found.node found.counter found.low found.small (sym (joined_parted 46 word) ∙ ap (joined 46) found.is))

pub name_if_some : (r : Option Id) (word : List ℕ) → IfSome r (λ id. word ≡ id_text id.0) → IfSome r (λ id. fits name word ≡ true)
name_if_some None word is = tt
name_if_some (Some id) word is = name_fits id word is

pub name_if_none : (r : Option Id) (word : List ℕ)
    → IfNone r ((node counter : ℕ) → node < 2 ^ 32 → counter < 2 ^ 64 → word ≢ decimal node ++ (codes "." ++ decimal counter))
    → IfNone r (fits name word ≡ false)
name_if_none None word none = no_name word none
name_if_none (Some id) word none = tt

-- a word that fits is the name of an object
pub record NamesObject (word : List ℕ) : Type 0 where
  pub id : Id
  pub is : word ≡ id_text id.0
  pub object : IsObject id

named : (node counter : ℕ) (word : List ℕ) → node < 2 ^ 32 → counter < 2 ^ 64 → word ≡ decimal node ++ (46 ∷ decimal counter)
    → NamesObject word
named node counter word low small is =
    let number : node_of (id_of node counter) ≡ node = omega arith in
    let count : counter_of (id_of node counter) ≡ counter = omega arith in
    record {
      id = record { 0 = id_of node counter };
      is = is ∙ ap (λ n. decimal n ++ (46 ∷ decimal counter)) (sym number)
          ∙ ap (λ n. decimal (node_of (id_of node counter)) ++ (46 ∷ decimal n)) (sym count);
      object = omega arith;
    }

pub object_of_fit : (word : List ℕ) → fits name word ≡ true → NamesObject word
object_of_fit word holds =
    let found = name_of_fit word holds in
    named found.node found.counter word found.low found.small (sym (joined_parted 46 word) ∙ ap (joined 46) found.is)
