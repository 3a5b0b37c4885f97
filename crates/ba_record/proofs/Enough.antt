-- As many levels as there are bytes are enough: with more of them a tree is read alike.
use Rattle.std.proofs.Common.{◌≡◌, ◌≤◌, ℕ, zero, suc, Bool, true, false, nat_le, if◌then◌else◌, List, [], ◌∷◌, length, take, drop, ap, refl}
use Rattle.std.proofs.Common.{◌∙◌, subst, arith, length-drop}
use Rattle.std.specs.Int.{w16, from_le_bytes}
use Rattle.ba_tree.specs.declared.trees.Content.TheVariants.{Child, Text}
use Rattle.ba_tree.specs.declared.trees.Tree.{Tree}
use Rattle.ba_record.specs.Reading.{Reading, read, bad, short, onward, read_byte, read_front, read_number, read_string, read_many}
use Rattle.ba_record.specs.Reading.{read_name, read_attribute, read_attributes, content_of, read_content, read_contents, read_element}
use Rattle.ba_record.specs.Reading.{read_tree}

-- both readings are one, which leaves at most k bytes
pub record Agree {A : Type 0} (k : ℕ) (r s : Reading A) : Type 0 where
  pub same : r ≡ s
  pub leaves : (a : A) (rest : List ℕ) → r ≡ read a rest → length rest ≤ k

-- ---- steps

agree_short : {A : Type 0} (k : ℕ) → Agree {A = A} k short short
agree_short k = record { same = refl; leaves = λ a rest e. absurd (cc) }

pub agree_bad : {A : Type 0} (k : ℕ) (from : List ℕ) → Agree {A = A} k (bad from) (bad from)
agree_bad k from = record { same = refl; leaves = λ a rest e. absurd (cc) }

pub agree_read : {A : Type 0} (k : ℕ) (a : A) (rest : List ℕ) → length rest ≤ k → Agree k (read a rest) (read a rest)
agree_read k a rest within = record {
  same = refl;
  leaves = λ b out e. let after : rest ≡ out = cc in subst (λ (xs : List ℕ). length xs ≤ k) after within;
}

pub agree_onward : {A B : Type 0} (k j : ℕ) (r s : Reading A) (f g : A → List ℕ → Reading B) → Agree k r s
    → ((a : A) (rest : List ℕ) → length rest ≤ k → Agree j (f a rest) (g a rest)) → Agree j (onward r f) (onward s g)
agree_onward k j (read a rest) s f g both next =
    let on = next a rest (both.leaves a rest refl) in
    record { same = on.same ∙ ap (λ x. onward x g) both.same; leaves = on.leaves }
agree_onward k j (bad from) s f g both next = record { same = ap (λ x. onward x g) both.same; leaves = λ b rest e. absurd (cc) }
agree_onward k j short s f g both next = record { same = ap (λ x. onward x g) both.same; leaves = λ b rest e. absurd (cc) }

agree_weaker : {A : Type 0} (k j : ℕ) (r s : Reading A) → k ≤ j → Agree k r s → Agree j r s
agree_weaker k j r s less both = record { same = both.same; leaves = λ a rest e. omega (arith, less, both.leaves a rest e) }

-- ---- fields

pub agree_byte : (k : ℕ) (bytes : List ℕ) → length bytes ≤ suc k → Agree k (read_byte bytes) (read_byte bytes)
agree_byte k [] within = agree_short k
agree_byte k (b ∷ rest) within = agree_read k b rest (omega arith)

agree_front : (k n : ℕ) (bytes : List ℕ) → length bytes ≤ k → Agree k (read_front n bytes) (read_front n bytes)
agree_front k n bytes within = either (nat_le n (length bytes))
  where
    either : (enough : Bool)
        → Agree k (if enough then read (take n bytes) (drop n bytes) else short)
        (if enough then read (take n bytes) (drop n bytes) else short)
    either true = agree_read k (take n bytes) (drop n bytes) (omega (arith, within, length-drop n bytes))
    either false = agree_short k

pub agree_16 : (k : ℕ) (bytes : List ℕ) → length bytes ≤ k → Agree k (read_number w16 bytes) (read_number w16 bytes)
agree_16 k bytes within =
    agree_onward k k (read_front 2 bytes) (read_front 2 bytes) _ _ (agree_front k 2 bytes within) (λ digits rest less.
    agree_read k (from_le_bytes w16 digits) rest less)

pub agree_string : (k : ℕ) (bytes : List ℕ) → length bytes ≤ k → Agree k (read_string bytes) (read_string bytes)
agree_string k bytes within =
    agree_onward k k (read_number w16 bytes) (read_number w16 bytes) _ _ (agree_16 k bytes within)
    (λ n rest less. agree_front k n rest less)

pub agree_name : (k : ℕ) (bytes : List ℕ) → length bytes ≤ k → Agree k (read_name bytes) (read_name bytes)
agree_name k bytes within =
    agree_onward k k (read_string bytes) (read_string bytes) _ _ (agree_string k bytes within) (λ space rest less.
    agree_onward k k (read_string rest) (read_string rest) _ _ (agree_string k rest less) (λ local after few.
    agree_read k (record { space = space; local = local }) after few))

agree_attribute : (k : ℕ) (bytes : List ℕ) → length bytes ≤ k → Agree k (read_attribute bytes) (read_attribute bytes)
agree_attribute k bytes within =
    agree_onward k k (read_name bytes) (read_name bytes) _ _ (agree_name k bytes within) (λ name rest less.
    agree_onward k k (read_string rest) (read_string rest) _ _ (agree_string k rest less) (λ value after few.
    agree_read k (record { name = name; value = value }) after few))

-- ---- many fields

pub agree_many : {A : Type 0} (k : ℕ) (f g : List ℕ → Reading A) → ((bytes : List ℕ) → length bytes ≤ k → Agree k (f bytes) (g bytes))
    → (n : ℕ) (bytes : List ℕ) → length bytes ≤ k → Agree k (read_many f n bytes) (read_many g n bytes)
agree_many k f g each zero bytes within = agree_read k [] bytes within
agree_many k f g each (suc n) bytes within =
    agree_onward k k (f bytes) (g bytes) _ _ (each bytes within) (λ a rest less.
    agree_onward k k (read_many f n rest) (read_many g n rest) _ _ (agree_many k f g each n rest less) (λ more after few.
    agree_read k (a ∷ more) after few))

pub agree_attributes : (k : ℕ) (bytes : List ℕ) → length bytes ≤ suc k → Agree k (read_attributes bytes) (read_attributes bytes)
agree_attributes k bytes within =
    agree_onward k k (read_byte bytes) (read_byte bytes) _ _ (agree_byte k bytes within) (λ n rest less.
    agree_many k read_attribute read_attribute (agree_attribute k) n rest less)

-- ---- trees

-- trees of at most k bytes are read alike
module _ (k : ℕ) (f g : List ℕ → Reading Tree) (each : (bytes : List ℕ) → length bytes ≤ k → Agree k (f bytes) (g bytes)) where
  agree_piece : (byte : ℕ) (from rest : List ℕ) → length rest ≤ k → Agree k (content_of f byte from rest) (content_of g byte from rest)
  agree_piece zero from rest less =
      agree_onward k k (read_string rest) (read_string rest) _ _ (agree_string k rest less)
      (λ text after few. agree_read k (Text text) after few)
  agree_piece (suc zero) from rest less =
      agree_onward k k (f rest) (g rest) _ _ (each rest less) (λ child after few. agree_read k (Child child) after few)
  agree_piece (suc (suc n)) from rest less = agree_bad k from

  pub agree_content : (bytes : List ℕ) → length bytes ≤ suc k → Agree k (read_content f bytes) (read_content g bytes)
  agree_content bytes within =
      agree_onward k k (read_byte bytes) (read_byte bytes) _ _ (agree_byte k bytes within)
      (λ byte rest less. agree_piece byte bytes rest less)

  pub agree_pieces : (n : ℕ) (bytes : List ℕ) → length bytes ≤ k
      → Agree k (read_many (read_content f) n bytes) (read_many (read_content g) n bytes)
  agree_pieces n bytes within = agree_many k (read_content f) (read_content g)
      (λ b less. agree_content b (omega (arith, less))) n bytes within

  agree_contents : (bytes : List ℕ) → length bytes ≤ k → Agree k (read_contents f bytes) (read_contents g bytes)
  agree_contents bytes within =
      agree_onward k k (read_number w16 bytes) (read_number w16 bytes) _ _ (agree_16 k bytes within)
      (λ n rest less. agree_pieces n rest less)

  agree_element : (bytes : List ℕ) → length bytes ≤ suc k → Agree k (read_element f bytes) (read_element g bytes)
  agree_element bytes within =
      agree_onward (suc k) k (read_name bytes) (read_name bytes) _ _ (agree_name (suc k) bytes within) (λ name rest less.
      agree_onward k k (read_attributes rest) (read_attributes rest) _ _ (agree_attributes k rest less) (λ attributes more few.
      agree_onward k k (read_contents f more) (read_contents g more) _ _ (agree_contents more few) (λ content after fewer.
      agree_read k (record { name = name; attributes = attributes; content = content }) after fewer)))

no_bytes : (levels : ℕ) → read_tree levels [] ≡ short
unfolding read_tree
no_bytes zero = refl
no_bytes (suc levels) = refl

agree_nothing : (l m : ℕ) → Agree 0 (read_tree l []) (read_tree m [])
agree_nothing l m = rw (no_bytes l, no_bytes m) (agree_short 0)

-- of at most k bytes, with at least so many levels
pub agree_tree : (k l m : ℕ) → k ≤ l → k ≤ m → (bytes : List ℕ) → length bytes ≤ k → Agree k (read_tree l bytes) (read_tree m bytes)
unfolding read_tree
agree_tree zero l m some enough [] within = agree_nothing l m
agree_tree zero l m some enough (b ∷ bytes) within = absurd (omega arith)
agree_tree (suc k) zero m some enough bytes within = absurd (omega arith)
agree_tree (suc k) (suc l) zero some enough bytes within = absurd (omega arith)
agree_tree (suc k) (suc l) (suc m) some enough bytes within =
    let below = agree_tree k l m (omega (arith, some)) (omega (arith, enough)) in
    agree_weaker k (suc k) (read_element (read_tree l) bytes) (read_element (read_tree m) bytes) (omega arith)
    (agree_element k (read_tree l) (read_tree m) below bytes within)
