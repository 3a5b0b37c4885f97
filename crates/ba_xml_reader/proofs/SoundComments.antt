-- Comments backward: what follows in the machine's states inside a comment is the rest of a comment.
use Rattle.std.proofs.Common.{◌≡◌, ℕ, true, List, [], ◌∷◌, ◌++◌, refl, ap}
use Rattle.ba_xml_grammar.specs.Grammar.{IsComment}
use Rattle.ba_xml_grammar.specs.GrammarWords.{IsFront, is_character}
use Rattle.ba_xml_reader.specs.declared.states.Seen.{Seen}
use Rattle.ba_xml_reader.specs.declared.states.Seen.TheVariants.{Zero, One, Two}

abbrev pub hyphens_and : Seen → List ℕ → List ℕ
hyphens_and Zero bs = bs
hyphens_and One bs = 45 ∷ bs
hyphens_and Two bs = 45 ∷ 45 ∷ bs

abbrev pub comment_ending : List ℕ → List ℕ → List ℕ
comment_ending body rest = body ++ 45 ∷ 45 ∷ 62 ∷ rest

-- behind so many hyphens of a comment
abbrev pub LeadsComment : Seen → (List ℕ → Type 0) → List ℕ → Type 0
LeadsComment seen After bs = (body : List ℕ) × (rest : List ℕ) × IsComment body
    × (hyphens_and seen bs ≡ comment_ending body rest) × After rest

head_same : (x y : ℕ) (xs ys : List ℕ) → x ∷ xs ≡ y ∷ ys → x ≡ y
head_same x y xs ys e = cc

tail_same : (x y : ℕ) (xs ys : List ℕ) → x ∷ xs ≡ y ∷ ys → xs ≡ ys
tail_same x y xs ys e = cc

-- "--" begins with a hyphen
pub no_first : (b : ℕ) (bs : List ℕ) → (b ≡ 45 → ⊥) → IsFront (45 ∷ 45 ∷ []) (b ∷ bs) → ⊥
no_first b bs n f = n (head_same b 45 bs (45 ∷ f.0) f.1)

pub no_second : (b : ℕ) (bs : List ℕ) → (b ≡ 45 → ⊥) → IsFront (45 ∷ 45 ∷ []) (45 ∷ b ∷ bs) → ⊥
no_second b bs n f = n (head_same b 45 bs f.0 (tail_same 45 45 (b ∷ bs) (45 ∷ f.0) f.1))

-- another character
pub comment_character : (After : List ℕ → Type 0) (b : ℕ) (bs : List ℕ) → is_character b ≡ true → (b ≡ 45 → ⊥) → LeadsComment Zero After bs
    → LeadsComment Zero After (b ∷ bs)
comment_character After b bs c n l = (b ∷ l.0, l.1, ((c, l.2.0), (no_first b (l.0 ++ 45 ∷ []) n, l.2.1)), ap (λ x. b ∷ x) l.3, l.4)

pub comment_second : (After : List ℕ → Type 0) (b : ℕ) (bs : List ℕ) → is_character b ≡ true → (b ≡ 45 → ⊥) → LeadsComment Zero After bs
    → LeadsComment One After (b ∷ bs)
comment_second After b bs c n l = (
  45 ∷ b ∷ l.0,
  l.1,
  ((refl, (c, l.2.0)), (no_second b (l.0 ++ 45 ∷ []) n, (no_first b (l.0 ++ 45 ∷ []) n, l.2.1))),
  ap (λ x. 45 ∷ b ∷ x) l.3,
  l.4,
)

-- the end
pub comment_ends : (After : List ℕ → Type 0) (bs : List ℕ) → After bs → LeadsComment Two After (62 ∷ bs)
comment_ends After bs a = ([], bs, (tt, ((λ f. no_pair f), tt)), refl, a)
  where
    no_pair : IsFront (45 ∷ 45 ∷ []) (45 ∷ []) → ⊥
    no_pair f = clash f.0 f.1
      where
        clash : (rest : List ℕ) → 45 ∷ [] ≡ 45 ∷ 45 ∷ rest → ⊥
        clash rest e = cc

-- another hyphen is held back
pub comment_hyphen_one : (After : List ℕ → Type 0) (bs : List ℕ) → LeadsComment One After bs → LeadsComment Zero After (45 ∷ bs)
comment_hyphen_one After bs l = l

pub comment_hyphen_two : (After : List ℕ → Type 0) (bs : List ℕ) → LeadsComment Two After bs → LeadsComment One After (45 ∷ bs)
comment_hyphen_two After bs l = l
