-- The machine over comments, CDATA sections, characters and white space.
use Rattle.std.proofs.Common.{◌≡◌, ℕ, Bool, true, false, ◌==◌, ◌⊎◌, inl, inr, eqb→eq, eq-eqb, T, List, [], ◌∷◌, ◌++◌, refl, sym, ap, ◌∙◌}
use Rattle.std.proofs.Common.{subst, append_assoc, append-nil, true≢false}
use Rattle.ba_xml_reader.proofs.CompleteSteps.{steps, by_kind, go, IsByte, told, no_control, space_kind}
use Rattle.ba_xml_words.specs.Classes.{class_of, mark_of}
use Rattle.ba_xml_names.specs.inside.Levels.{put, put_all}
use Rattle.ba_xml_reader.specs.inside.Machine.{state_after, act_by}
use Rattle.ba_xml_grammar.specs.Grammar.{IsComment, IsSection}
use Rattle.ba_xml_grammar.specs.GrammarWords.{Each, Nowhere, IsWhite, Differ, is_character}
use Rattle.ba_xml_words.specs.declared.classes.Class.{Class}
use Rattle.ba_xml_words.specs.declared.classes.Class.TheVariants as class
use Rattle.ba_xml_names.specs.declared.levels.Level.{Level}
use Rattle.ba_xml_reader.specs.declared.states.Mode.{Mode}
use Rattle.ba_xml_reader.specs.declared.states.Mode.TheVariants as mode
use Rattle.ba_xml_reader.specs.declared.states.Seen.{Seen}
use Rattle.ba_xml_reader.specs.declared.states.Seen.TheVariants.{Zero, One, Two}
use Rattle.ba_xml_reader.specs.declared.states.State.{State}
use Rattle.ba_xml_reader.specs.declared.states.State.TheVariants.{At}

pub hyphen_kind : class_of 45 ≡ class.Hyphen
unfolding class_of mark_of
hyphen_kind = refl

pub greater_kind : class_of 62 ≡ class.Greater
unfolding class_of mark_of
greater_kind = refl

pub bracket_kind : class_of 93 ≡ class.CloseBracket
unfolding class_of mark_of
bracket_kind = refl

-- ---- white space

pub white : (outer : List Level) (here : Level) (m : Mode) → act_by outer here m 0 class.Space ≡ At outer here m
    → ((b : ℕ) → act_by outer here m b class.Space ≡ At outer here m) → (ws rest : List ℕ) → IsWhite ws
    → steps (At outer here m) (ws ++ rest) ≡ steps (At outer here m) rest
white outer here m e stays [] rest w = refl
white outer here m e stays (b ∷ ws) rest w =
    go outer here m b class.Space (ws ++ rest) (space_kind b w.0) ∙ ap (λ s. steps s (ws ++ rest)) (stays b)
    ∙ white outer here m e stays ws rest w.1

-- ---- comments

abbrev hyphens : Seen → List ℕ → List ℕ
hyphens Zero bs = bs
hyphens One bs = 45 ∷ bs
hyphens Two bs = 45 ∷ 45 ∷ bs

abbrev comment_word : List ℕ
comment_word = 45 ∷ 45 ∷ []

after_none : (outer : List Level) (here : Level) (b : ℕ) (bs : List ℕ) (end : State) (rest : List ℕ) (k : Class) → class_of b ≡ k
    → IsByte k b → is_character b ≡ true
    → (b ≡ 45 → steps (At outer here (mode.Comment One)) bs ≡ steps end rest)
    → steps (At outer here (mode.Comment Zero)) bs ≡ steps end rest
    → steps (At outer here (mode.Comment Zero)) (b ∷ bs) ≡ steps end rest
after_none outer here b bs end rest class.Control e t c hyphen other = absurd (no_control b c t)
after_none outer here b bs end rest class.Hyphen e t c hyphen other = go outer here (mode.Comment Zero) b class.Hyphen bs e ∙ hyphen t
after_none outer here b bs end rest k e t c hyphen other = go outer here (mode.Comment Zero) b k bs e ∙ other

after_one : (outer : List Level) (here : Level) (b : ℕ) (bs : List ℕ) (end : State) (rest : List ℕ) (k : Class) → class_of b ≡ k
    → IsByte k b → is_character b ≡ true
    → (b ≡ 45 → ⊥) → steps (At outer here (mode.Comment Zero)) bs ≡ steps end rest
    → steps (At outer here (mode.Comment One)) (b ∷ bs) ≡ steps end rest
after_one outer here b bs end rest class.Control e t c hyphen other = absurd (no_control b c t)
after_one outer here b bs end rest class.Hyphen e t c hyphen other = absurd (hyphen t)
after_one outer here b bs end rest k e t c hyphen other = go outer here (mode.Comment One) b k bs e ∙ other

comment_body : (outer : List Level) (here : Level) (seen : Seen) (body rest : List ℕ) → Each is_character body
    → Nowhere comment_word (hyphens seen (body ++ 45 ∷ []))
    → steps (At outer here (mode.Comment seen)) (body ++ 45 ∷ 45 ∷ 62 ∷ rest) ≡ steps (At outer here (mode.Inside Zero)) rest
comment_body outer here Two body rest c n = absurd (n.0 (body ++ 45 ∷ [], refl))
comment_body outer here One [] rest c n = absurd (n.0 ([], refl))
comment_body outer here Zero [] rest c n = go outer here (mode.Comment Zero) 45 class.Hyphen (45 ∷ 62 ∷ rest) hyphen_kind
    ∙ go outer here (mode.Comment One) 45 class.Hyphen (62 ∷ rest) hyphen_kind
    ∙ go outer here (mode.Comment Two) 62 class.Greater rest greater_kind
comment_body outer here Zero (b ∷ bs) rest c n =
    after_none outer here b (bs ++ 45 ∷ 45 ∷ 62 ∷ rest) (At outer here (mode.Inside Zero)) rest (class_of b) refl (told b) c.0
    (λ e. comment_body outer here One bs rest c.1 (subst (λ x. Nowhere comment_word (x ∷ (bs ++ 45 ∷ []))) e n))
    (comment_body outer here Zero bs rest c.1 n.1)
comment_body outer here One (b ∷ bs) rest c n =
    after_one outer here b (bs ++ 45 ∷ 45 ∷ 62 ∷ rest) (At outer here (mode.Inside Zero)) rest (class_of b) refl (told b) c.0
    (λ e. n.0 (bs ++ 45 ∷ [], ap (λ x. 45 ∷ x ∷ (bs ++ 45 ∷ [])) e)) (comment_body outer here Zero bs rest c.1 n.1.1)

pub comment_runs : (outer : List Level) (here : Level) (body rest : List ℕ) → IsComment body
    → steps (At outer here mode.Hyphened) (45 ∷ (body ++ 45 ∷ 45 ∷ 62 ∷ rest)) ≡ steps (At outer here (mode.Inside Zero)) rest
comment_runs outer here body rest c = go outer here mode.Hyphened 45 class.Hyphen (body ++ 45 ∷ 45 ∷ 62 ∷ rest) hyphen_kind
    ∙ comment_body outer here Zero body rest c.0 c.1

-- ---- CDATA sections

abbrev pub brackets : Seen → List ℕ → List ℕ
brackets Zero bs = bs
brackets One bs = 93 ∷ bs
brackets Two bs = 93 ∷ 93 ∷ bs

abbrev pub section_word : List ℕ
section_word = 93 ∷ 93 ∷ 62 ∷ []

abbrev bracket_next : List ℕ → Seen → Mode
bracket_next acc Zero = mode.Section acc One
bracket_next acc One = mode.Section acc Two
bracket_next acc Two = mode.Section (acc ++ 93 ∷ []) Two

bracket_step : (outer : List Level) (here : Level) (acc : List ℕ) (seen : Seen) (bs : List ℕ)
    → steps (At outer here (mode.Section acc seen)) (93 ∷ bs) ≡ steps (At outer here (bracket_next acc seen)) bs
bracket_step outer here acc Zero bs = go outer here (mode.Section acc Zero) 93 class.CloseBracket bs bracket_kind
bracket_step outer here acc One bs = go outer here (mode.Section acc One) 93 class.CloseBracket bs bracket_kind
bracket_step outer here acc Two bs = go outer here (mode.Section acc Two) 93 class.CloseBracket bs bracket_kind

section_close : (outer : List Level) (here : Level) (acc : List ℕ) (seen : Seen) (rest : List ℕ)
    → steps (At outer here (mode.Section acc seen)) (93 ∷ 93 ∷ 62 ∷ rest)
    ≡ steps (At outer (put_all here (acc ++ brackets seen [])) (mode.Inside Zero)) rest
section_close outer here acc Zero rest = bracket_step outer here acc Zero (93 ∷ 62 ∷ rest) ∙ bracket_step outer here acc One (62 ∷ rest)
    ∙ go outer here (mode.Section acc Two) 62 class.Greater rest greater_kind
    ∙ ap (λ a. steps (At outer (put_all here a) (mode.Inside Zero)) rest) (sym (append-nil acc))
section_close outer here acc One rest = bracket_step outer here acc One (93 ∷ 62 ∷ rest) ∙ bracket_step outer here acc Two (62 ∷ rest)
    ∙ go outer here (mode.Section (acc ++ 93 ∷ []) Two) 62 class.Greater rest greater_kind
section_close outer here acc Two rest = bracket_step outer here acc Two (93 ∷ 62 ∷ rest)
    ∙ bracket_step outer here (acc ++ 93 ∷ []) Two (62 ∷ rest)
    ∙ go outer here (mode.Section ((acc ++ 93 ∷ []) ++ 93 ∷ []) Two) 62 class.Greater rest greater_kind
    ∙ ap (λ a. steps (At outer (put_all here a) (mode.Inside Zero)) rest) (append_assoc acc (93 ∷ []) (93 ∷ []))

-- a byte that isn't a bracket, where it doesn't end the section
plain_step : (outer : List Level) (here : Level) (acc : List ℕ) (seen : Seen) (b : ℕ) (bs : List ℕ) (k : Class) → class_of b ≡ k
    → IsByte k b → is_character b ≡ true
    → (b ≡ 93 → ⊥) → (b ≡ 62 → seen ≡ Two → ⊥)
    → steps (At outer here (mode.Section acc seen)) (b ∷ bs)
    ≡ steps (At outer here (mode.Section ((acc ++ brackets seen []) ++ b ∷ []) Zero)) bs
plain_step outer here acc seen b bs class.Control e t c nb ng = absurd (no_control b c t)
plain_step outer here acc seen b bs class.CloseBracket e t c nb ng = absurd (nb t)
plain_step outer here acc Two b bs class.Greater e t c nb ng = absurd (ng t refl)
plain_step outer here acc One b bs class.Greater e t c nb ng = go outer here (mode.Section acc One) b class.Greater bs e
plain_step outer here acc Zero b bs class.Greater e t c nb ng = go outer here (mode.Section acc Zero) b class.Greater bs e
plain_step outer here acc Two b bs k e t c nb ng = go outer here (mode.Section acc Two) b k bs e
plain_step outer here acc One b bs k e t c nb ng = go outer here (mode.Section acc One) b k bs e
plain_step outer here acc Zero b bs k e t c nb ng = go outer here (mode.Section acc Zero) b k bs e

abbrev SectionRuns : List Level → Level → List ℕ → List ℕ → Type 0
SectionRuns outer here body rest = (acc : List ℕ) (seen : Seen) → Nowhere section_word (brackets seen body)
    → steps (At outer here (mode.Section acc seen)) (body ++ 93 ∷ 93 ∷ 62 ∷ rest)
    ≡ steps (At outer (put_all here (acc ++ brackets seen body)) (mode.Inside Zero)) rest

-- brackets before a list, and then it
pub brackets_before : (seen : Seen) (bs : List ℕ) → brackets seen [] ++ bs ≡ brackets seen bs
brackets_before Zero bs = refl
brackets_before One bs = refl
brackets_before Two bs = refl

pub fewer : (seen : Seen) (b : ℕ) (bs : List ℕ) → Nowhere section_word (brackets seen (b ∷ bs)) → Nowhere section_word bs
fewer Zero b bs n = n.1
fewer One b bs n = n.1.1
fewer Two b bs n = n.1.1.1

section_bracket : (outer : List Level) (here : Level) (bs rest : List ℕ) → SectionRuns outer here bs rest
    → SectionRuns outer here (93 ∷ bs) rest
section_bracket outer here bs rest ih acc Zero n = bracket_step outer here acc Zero (bs ++ 93 ∷ 93 ∷ 62 ∷ rest) ∙ ih acc One n
section_bracket outer here bs rest ih acc One n = bracket_step outer here acc One (bs ++ 93 ∷ 93 ∷ 62 ∷ rest) ∙ ih acc Two n
section_bracket outer here bs rest ih acc Two n = bracket_step outer here acc Two (bs ++ 93 ∷ 93 ∷ 62 ∷ rest) ∙ ih (acc ++ 93 ∷ []) Two n.1
    ∙ ap (λ a. steps (At outer (put_all here a) (mode.Inside Zero)) rest) (append_assoc acc (93 ∷ []) (93 ∷ 93 ∷ bs))

section_plain : (outer : List Level) (here : Level) (b : ℕ) (bs rest : List ℕ) → is_character b ≡ true → (b ≡ 93 → ⊥)
    → SectionRuns outer here bs rest → SectionRuns outer here (b ∷ bs) rest
section_plain outer here b bs rest c nb ih acc seen n =
    plain_step outer here acc seen b (bs ++ 93 ∷ 93 ∷ 62 ∷ rest) (class_of b) refl (told b) c nb (λ e s. ends seen s e n)
    ∙ ih ((acc ++ brackets seen []) ++ b ∷ []) Zero (fewer seen b bs n)
    ∙ ap (λ a. steps (At outer (put_all here a) (mode.Inside Zero)) rest)
    (append_assoc (acc ++ brackets seen []) (b ∷ []) bs ∙ append_assoc acc (brackets seen []) (b ∷ bs)
    ∙ ap (λ x. acc ++ x) (brackets_before seen (b ∷ bs)))
  where
    ends : (seen : Seen) → seen ≡ Two → b ≡ 62 → Nowhere section_word (brackets seen (b ∷ bs)) → ⊥
    ends seen s e n = (subst (λ x. Nowhere section_word (brackets x (b ∷ bs))) s n).0 (bs, ap (λ x. 93 ∷ 93 ∷ x ∷ bs) e)

pub alike : (b c : ℕ) (t : Bool) → (b == c) ≡ t → (b ≡ c) ⊎ (b ≡ c → ⊥)
alike b c true e = inl (eqb→eq b c (subst T (sym e) tt))
alike b c false e = inr (λ same. true≢false (sym (eq-eqb c c refl) ∙ ap (λ x. x == c) (sym same) ∙ e))

section_next : (outer : List Level) (here : Level) (b : ℕ) (bs rest : List ℕ) → is_character b ≡ true → (b ≡ 93) ⊎ (b ≡ 93 → ⊥)
    → SectionRuns outer here bs rest → SectionRuns outer here (b ∷ bs) rest
section_next outer here b bs rest c (inl e) ih =
    subst (λ x. SectionRuns outer here (x ∷ bs) rest) (sym e) (section_bracket outer here bs rest ih)
section_next outer here b bs rest c (inr ne) ih = section_plain outer here b bs rest c ne ih

section_body : (outer : List Level) (here : Level) (body rest : List ℕ) → Each is_character body → SectionRuns outer here body rest
section_body outer here [] rest c = λ acc seen n. section_close outer here acc seen rest
section_body outer here (b ∷ bs) rest c =
    section_next outer here b bs rest c.0 (alike b 93 (b == 93) refl) (section_body outer here bs rest c.1)

pub section_runs : (outer : List Level) (here : Level) (body rest : List ℕ) → IsSection body
    → steps (At outer here (mode.Section [] Zero)) (body ++ 93 ∷ 93 ∷ 62 ∷ rest)
    ≡ steps (At outer (put_all here body) (mode.Inside Zero)) rest
section_runs outer here body rest s = section_body outer here body rest s.0 [] Zero s.1

-- ---- characters

pub Differing : (b c : ℕ) → Differ b c → b ≡ c → ⊥
Differing b c d e = true≢false (sym (eq-eqb c c refl) ∙ ap (λ x. x == c) (sym e) ∙ d)

-- a character in an element
abbrev pub CharacterRuns : List Level → Level → Seen → ℕ → List ℕ → Type 0
CharacterRuns outer here seen b bs = (next : Seen)
    × (state_after (At outer here (mode.Inside seen)) b ≡ At outer (put here b) (mode.Inside next))
    × Nowhere section_word (brackets next bs)

bracketed : (seen : Seen) (b : ℕ) (bs : List ℕ) → b ≡ 93 → Nowhere section_word (brackets seen (b ∷ bs))
    → Nowhere section_word (brackets seen (93 ∷ bs))
bracketed seen b bs e n = subst (λ x. Nowhere section_word (brackets seen (x ∷ bs))) e n

character_step : (parent : Level) (outer : List Level) (here : Level) (seen : Seen) (b : ℕ) (bs : List ℕ) (k : Class) → class_of b ≡ k
    → IsByte k b → is_character b ≡ true
    → (b ≡ 60 → ⊥) → (b ≡ 38 → ⊥) → Nowhere section_word (brackets seen (b ∷ bs)) → CharacterRuns (parent ∷ outer) here seen b bs
character_step parent outer here seen b bs class.Control e t c nl na n = absurd (no_control b c t)
character_step parent outer here seen b bs class.Less e t c nl na n = absurd (nl t)
character_step parent outer here seen b bs class.Ampersand e t c nl na n = absurd (na t)
character_step parent outer here Zero b bs class.CloseBracket e t c nl na n =
    (One, by_kind (parent ∷ outer) here (mode.Inside Zero) b class.CloseBracket e, bracketed Zero b bs t n)
character_step parent outer here One b bs class.CloseBracket e t c nl na n =
    (Two, by_kind (parent ∷ outer) here (mode.Inside One) b class.CloseBracket e, bracketed One b bs t n)
character_step parent outer here Two b bs class.CloseBracket e t c nl na n =
    (Two, by_kind (parent ∷ outer) here (mode.Inside Two) b class.CloseBracket e, (bracketed Two b bs t n).1)
character_step parent outer here Two b bs class.Greater e t c nl na n = absurd (n.0 (bs, ap (λ x. 93 ∷ 93 ∷ x ∷ bs) t))
character_step parent outer here One b bs class.Greater e t c nl na n =
    (Zero, by_kind (parent ∷ outer) here (mode.Inside One) b class.Greater e, fewer One b bs n)
character_step parent outer here Zero b bs class.Greater e t c nl na n =
    (Zero, by_kind (parent ∷ outer) here (mode.Inside Zero) b class.Greater e, fewer Zero b bs n)
character_step parent outer here seen b bs k e t c nl na n = (
  Zero,
  by_kind (parent ∷ outer) here (mode.Inside seen) b k e,
  fewer seen b bs n,
)

pub character_runs : (parent : Level) (outer : List Level) (here : Level) (seen : Seen) (b : ℕ) (bs : List ℕ) → is_character b ≡ true
    → Differ b 60 → Differ b 38
    → Nowhere section_word (brackets seen (b ∷ bs)) → CharacterRuns (parent ∷ outer) here seen b bs
character_runs parent outer here seen b bs c l a n =
    character_step parent outer here seen b bs (class_of b) refl (told b) c (Differing b 60 l) (Differing b 38 a) n
