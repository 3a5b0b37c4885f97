-- What is passed over of an endpoint leaves the bytes that its reading leaves. For the clauses of `skip_pieces`, `skip_tree`
-- and `skip_endpoint`.
use Rattle.std.proofs.Common.{◌≡◌, ◌+◌, ◌-◌, ◌<◌, ◌≤◌, ℕ, zero, suc, List, [], ◌∷◌, length, ap, refl, sym, ◌∙◌, subst, arith}
use Rattle.std.specs.Int.{w16}
use Rattle.ba_message.specs.declared.endpoints.TheConstants.{MOST_ENDPOINT_BYTES}
use Rattle.ba_message.specs.declared.endpoints.Epr.{Epr}
use Rattle.ba_tree.specs.declared.trees.Content.{Content}
use Rattle.ba_tree.specs.declared.trees.Content.TheVariants.{Child, Text}
use Rattle.ba_tree.specs.declared.trees.Tree.{Tree}
use Rattle.ba_record.specs.declared.fields.FieldFault.{FieldFault}
use Rattle.ba_record.specs.Reading.{Reading, read, bad, short, onward, Explains, read_number, read_string, read_many, read_name}
use Rattle.ba_record.specs.Reading.{read_attributes, read_content, read_tree, read_any_endpoint}
use Rattle.ba_record.specs.inside.Skips.{without_value, read_parameters, read_pieces, read_tree_head, head_of, read_piece_head}
use Rattle.ba_record.proofs.Enough.{Agree, agree_16, agree_attributes, agree_bad, agree_name, agree_onward, agree_pieces, agree_read}
use Rattle.ba_record.proofs.Enough.{agree_string, agree_tree}
use Rattle.ba_record.proofs.Onward.{explained_onward}

-- ---- readings without their values

pub short_without : {A : Type 0} (r : Reading A) → without_value r ≡ short → r ≡ short
short_without (read a rest) e = absurd (cc)
short_without (bad from) e = absurd (cc)
short_without short e = refl

-- another value
other_value : {A B : Type 0} (r : Reading A) (value : A → B) → without_value (onward r (λ a rest. read (value a) rest)) ≡ without_value r
other_value (read a rest) value = refl
other_value (bad from) value = refl
other_value short value = refl

-- a step that both readings begin with
by_step : {A B C : Type 0} (k : ℕ) (r : Reading A) (f : A → List ℕ → Reading B) (g : A → List ℕ → Reading C)
    (h : C → List ℕ → Reading (Unit {0}))
    → Agree k r r → ((a : A) (rest : List ℕ) → length rest ≤ k → without_value (f a rest) ≡ onward (g a rest) h)
    → without_value (onward r f) ≡ onward (onward r g) h
by_step k (read a rest) f g h leaves next = next a rest (leaves.leaves a rest refl)
by_step k (bad from) f g h leaves next = refl
by_step k short f g h leaves next = refl

regrouped : {A B C : Type 0} (r : Reading A) (f : A → List ℕ → Reading B) (g : B → List ℕ → Reading C) (h : A → List ℕ → Reading C)
    → ((a : A) (rest : List ℕ) → onward (f a rest) g ≡ h a rest) → onward (onward r f) g ≡ onward r h
regrouped (read a rest) f g h each = each a rest
regrouped (bad from) f g h each = refl
regrouped short f g h each = refl

-- so many pieces, and then so many more
module _ {A : Type 0} (f : List ℕ → Reading A) where
  one_more : (n m : ℕ) → ((bytes : List ℕ)
      → onward (without_value (read_many f n bytes)) (λ done rest. without_value (read_many f m rest))
      ≡ without_value (read_many f (n + m) bytes))
      → (r : Reading A)
      → onward (without_value (onward r (λ a rest. onward (read_many f n rest) (λ more after. read (a ∷ more) after))))
      (λ done rest. without_value (read_many f m rest))
      ≡ without_value (onward r (λ a rest. onward (read_many f (n + m) rest) (λ more after. read (a ∷ more) after)))
  one_more n m each (read a rest) =
      ap (λ (r : Reading (Unit {0})). onward r (λ done after. without_value (read_many f m after)))
      (other_value (read_many f n rest) (λ more. a ∷ more))
      ∙ each rest ∙ sym (other_value (read_many f (n + m) rest) (λ more. a ∷ more))
  one_more n m each (bad from) = refl
  one_more n m each short = refl

  pub many_more : (n m : ℕ) (bytes : List ℕ)
      → onward (without_value (read_many f n bytes)) (λ done rest. without_value (read_many f m rest))
      ≡ without_value (read_many f (n + m) bytes)
  many_more zero m bytes = let same : m ≡ 0 + m = omega arith in ap (λ (k : ℕ). without_value (read_many f k bytes)) same
  many_more (suc n) m bytes =
      let same : suc (n + m) ≡ suc n + m = omega arith in
      one_more n m (many_more n m) (f bytes) ∙ ap (λ (k : ℕ). without_value (read_many f k bytes)) same

-- ---- a tree, and its head

-- with so many levels
abbrev pieces_of : ℕ → ℕ → List ℕ → Reading (List Content)
pieces_of levels = read_many (read_content (read_tree levels))

abbrev rest_of : ℕ → ℕ → List ℕ → Reading (Unit {0})
rest_of levels n bytes = without_value (pieces_of levels n bytes)

same_pieces : (k n : ℕ) (bytes : List ℕ) → length bytes ≤ k → pieces_of k n bytes ≡ pieces_of (suc k) n bytes
same_pieces k n bytes within =
    (agree_pieces k (read_tree k) (read_tree (suc k)) (agree_tree k k (suc k) (omega arith) (omega arith)) n bytes within).same

contents_end : (k : ℕ) (value : List Content → Tree) (r : Reading ℕ) → Agree k r r
    → without_value (onward (onward r (pieces_of k)) (λ content after. read (value content) after)) ≡ onward r (rest_of (suc k))
contents_end k value (read n rest) leaves =
    other_value (pieces_of k n rest) value
    ∙ ap (λ (r : Reading (List Content)). without_value r) (same_pieces k n rest (leaves.leaves n rest refl))
contents_end k value (bad from) leaves = refl
contents_end k value short leaves = refl

tree_end : (k : ℕ) (bytes : List ℕ) → length bytes ≤ suc k
    → without_value (read_tree (suc k) bytes) ≡ onward (read_tree_head bytes) (rest_of (suc k))
unfolding read_tree
tree_end k bytes within =
    by_step (suc k) (read_name bytes) _ _ (rest_of (suc k)) (agree_name (suc k) bytes within) (λ name rest less.
    by_step k (read_attributes rest) _ _ (rest_of (suc k)) (agree_attributes k rest less) (λ attributes more few.
    contents_end k (λ content. record { name = name; attributes = attributes; content = content }) (read_number w16 more)
    (agree_16 k more few)))

-- ---- a piece, and its head

-- the pieces after a text
text_next : (levels n : ℕ) (r : Reading (List ℕ))
    → without_value
    (onward (onward r (λ text after. read (Text text) after))
    (λ a rest. onward (pieces_of levels n rest) (λ more after. read (a ∷ more) after)))
    ≡ onward (onward r (λ text after. read 0 after)) (λ more rest. rest_of levels (n + more) rest)
text_next levels n (read text rest) =
    let same : n ≡ n + 0 = omega arith in
    other_value (pieces_of levels n rest) (λ more. Text text ∷ more) ∙ ap (λ (k : ℕ). rest_of levels k rest) same
text_next levels n (bad from) = refl
text_next levels n short = refl

-- the pieces after a child
child_next : (levels n : ℕ) (r : Reading Tree)
    → without_value
    (onward (onward r (λ child after. read (Child child) after))
    (λ a rest. onward (pieces_of levels n rest) (λ more after. read (a ∷ more) after)))
    ≡ onward (without_value r) (λ done rest. rest_of levels n rest)
child_next levels n (read child rest) = other_value (pieces_of levels n rest) (λ more. Child child ∷ more)
child_next levels n (bad from) = refl
child_next levels n short = refl

inner_first : (levels n more : ℕ) (bytes : List ℕ)
    → onward (rest_of levels more bytes) (λ done rest. rest_of levels n rest) ≡ rest_of levels (n + more) bytes
inner_first levels n more bytes =
    let same : more + n ≡ n + more = omega arith in
    many_more (read_content (read_tree levels)) more n bytes ∙ ap (λ (k : ℕ). rest_of levels k bytes) same

-- the pieces of a piece are as many more
piece_next : (k n : ℕ) (bytes : List ℕ) → length bytes ≤ suc k
    → rest_of (suc k) (suc n) bytes ≡ onward (read_piece_head bytes) (λ more rest. rest_of (suc k) (n + more) rest)
piece_next k n [] within = refl
piece_next k n (zero ∷ rest) within = text_next (suc k) n (read_string rest)
piece_next k n (suc zero ∷ rest) within =
    child_next (suc k) n (read_tree (suc k) rest)
    ∙ ap (λ (r : Reading (Unit {0})). onward r (λ done after. rest_of (suc k) n after)) (tree_end k rest (omega (arith, within)))
    ∙ regrouped (read_tree_head rest) (rest_of (suc k)) (λ done after. rest_of (suc k) n after)
    (λ more after. rest_of (suc k) (n + more) after) (λ more after. inner_first (suc k) n more after)
piece_next k n (suc (suc byte) ∷ rest) within = refl

-- ---- of at most as many bytes as an endpoint has

pub tree_by_head : (bytes : List ℕ) → length bytes ≤ MOST_ENDPOINT_BYTES
    → without_value (read_tree MOST_ENDPOINT_BYTES bytes)
    ≡ onward (read_tree_head bytes) (λ pieces rest. without_value (read_pieces pieces rest))
tree_by_head bytes within = tree_end 4095 bytes within

-- one piece more was passed over
pub pieces_go_on : (count more : ℕ) (bytes rest : List ℕ) → 0 < count → length bytes ≤ MOST_ENDPOINT_BYTES
    → read_piece_head bytes ≡ read more rest
    → without_value (read_pieces count bytes) ≡ without_value (read_pieces (count - 1 + more) rest)
pieces_go_on zero more bytes rest some within is = absurd (omega arith)
pieces_go_on (suc n) more bytes rest some within is =
    let same : n + more ≡ suc n - 1 + more = omega arith in
    piece_next 4095 n bytes within
    ∙ ap (λ (r : Reading ℕ). onward r (λ m after. without_value (read_pieces (n + m) after))) is
    ∙ ap (λ (k : ℕ). without_value (read_pieces k rest)) same

-- a piece wasn't passed over
pub pieces_stop : (count : ℕ) (bytes from : List ℕ) (why : FieldFault) → 0 < count → length bytes ≤ MOST_ENDPOINT_BYTES
    → Explains (read_piece_head bytes) from why → Explains (without_value (read_pieces count bytes)) from why
pieces_stop zero bytes from why some within e = absurd (omega arith)
pieces_stop (suc n) bytes from why some within e =
    subst (λ (r : Reading (Unit {0})). Explains r from why) (sym (piece_next 4095 n bytes within))
    (explained_onward (read_piece_head bytes) _ from why e)

agree_head : (k : ℕ) (bytes : List ℕ) → length bytes ≤ k → Agree k (read_tree_head bytes) (read_tree_head bytes)
agree_head k bytes within =
    agree_onward k k (read_name bytes) (read_name bytes) _ _ (agree_name k bytes within) (λ name rest less.
    agree_onward k k (read_attributes rest) (read_attributes rest) _ _ (agree_attributes k rest (omega (arith, less)))
    (λ attributes more few. agree_16 k more few))

pub tree_head_leaves : (bytes rest : List ℕ) (pieces : ℕ) → read_tree_head bytes ≡ read pieces rest → length rest ≤ length bytes
tree_head_leaves bytes rest pieces is = (agree_head (length bytes) bytes (omega arith)).leaves pieces rest is

agree_head_of : (byte : ℕ) (from rest : List ℕ) → Agree (length rest) (head_of byte from rest) (head_of byte from rest)
agree_head_of zero from rest =
    agree_onward (length rest) (length rest) (read_string rest) (read_string rest) _ _ (agree_string (length rest) rest (omega arith))
    (λ text after less. agree_read (length rest) 0 after less)
agree_head_of (suc zero) from rest = agree_head (length rest) rest (omega arith)
agree_head_of (suc (suc n)) from rest = agree_bad (length rest) from

-- a piece takes a byte
pub piece_head_takes : (bytes rest : List ℕ) (more : ℕ) → read_piece_head bytes ≡ read more rest → length rest < length bytes
piece_head_takes [] rest more is = absurd (cc)
piece_head_takes (byte ∷ behind) rest more is = let fewer = (agree_head_of byte (byte ∷ behind) behind).leaves more rest is in omega arith

there : {A : Type 0} (r : Reading A) (done : Unit {0}) (rest : List ℕ) → without_value r ≡ read done rest → (a : A) × (r ≡ read a rest)
there (read a from) done rest e = let same : from ≡ rest = cc in (a, ap (λ (xs : List ℕ). read a xs) same)
there (bad from) done rest e = absurd (cc)
there short done rest e = absurd (cc)

pub tree_leaves : (bytes rest : List ℕ) (done : Unit {0}) → length bytes ≤ MOST_ENDPOINT_BYTES
    → without_value (read_tree MOST_ENDPOINT_BYTES bytes) ≡ read done rest → length rest ≤ MOST_ENDPOINT_BYTES
tree_leaves bytes rest done within e =
    let is = there (read_tree MOST_ENDPOINT_BYTES bytes) done rest e in
    (agree_tree MOST_ENDPOINT_BYTES MOST_ENDPOINT_BYTES MOST_ENDPOINT_BYTES (omega arith) (omega arith) bytes within).leaves is.0 rest is.1

-- ---- parameters

module _ {A : Type 0} (f : List ℕ → Reading A) where
  next_one : (n : ℕ) (r : Reading A)
      → without_value (onward r (λ a rest. onward (read_many f n rest) (λ more after. read (a ∷ more) after)))
      ≡ onward (without_value r) (λ done rest. without_value (read_many f n rest))
  next_one n (read a rest) = other_value (read_many f n rest) (λ more. a ∷ more)
  next_one n (bad from) = refl
  next_one n short = refl

  one_first : (n k : ℕ) (bytes : List ℕ) → k < n
      → without_value (read_many f (n - k) bytes)
      ≡ onward (without_value (f bytes)) (λ done rest. without_value (read_many f (n - (k + 1)) rest))
  one_first n k bytes more =
      let left : n - k ≡ suc (n - (k + 1)) = omega arith in
      rw left (next_one (n - (k + 1)) (f bytes))

  -- one value more was passed over
  pub many_go_on : (n k : ℕ) (bytes rest : List ℕ) (done : Unit {0}) → k < n → without_value (f bytes) ≡ read done rest
      → without_value (read_many f (n - k) bytes) ≡ without_value (read_many f (n - (k + 1)) rest)
  many_go_on n k bytes rest done more is =
      one_first n k bytes more ∙ ap (λ (r : Reading (Unit {0})). onward r (λ d after. without_value (read_many f (n - (k + 1)) after))) is

  -- a value wasn't passed over
  pub many_halt : (n k : ℕ) (bytes from : List ℕ) (why : FieldFault) → k < n → Explains (without_value (f bytes)) from why
      → Explains (without_value (read_many f (n - k) bytes)) from why
  many_halt n k bytes from why more e =
      subst (λ (r : Reading (Unit {0})). Explains r from why) (sym (one_first n k bytes more))
      (explained_onward (without_value (f bytes)) _ from why e)

-- the address, and then the parameters
abbrev endpoint_of : List ℕ → List Tree → Epr
endpoint_of address parameters = record { address = address; parameters = parameters }

parameters_next : (r : Reading (List ℕ))
    → without_value
    (onward r
    (λ address rest. onward (read_parameters MOST_ENDPOINT_BYTES rest)
    (λ parameters after. read (endpoint_of address parameters) after)))
    ≡ onward r (λ address rest. without_value (read_parameters MOST_ENDPOINT_BYTES rest))
parameters_next (read address rest) = other_value (read_parameters MOST_ENDPOINT_BYTES rest) (endpoint_of address)
parameters_next (bad from) = refl
parameters_next short = refl

pub endpoint_by_parameters : (bytes : List ℕ)
    → without_value (read_any_endpoint bytes)
    ≡ onward (read_string bytes) (λ address rest. without_value (read_parameters MOST_ENDPOINT_BYTES rest))
endpoint_by_parameters bytes = parameters_next (read_string bytes)

pub string_leaves : (bytes rest s : List ℕ) → read_string bytes ≡ read s rest → length rest ≤ length bytes
string_leaves bytes rest s is = (agree_string (length bytes) bytes (omega arith)).leaves s rest is
