-- One byte backward in the states between tags, in comments, sections and references.
use Rattle.std.proofs.Common.{◌≡◌, ℕ, true, false, ◌==◌, List, [], ◌∷◌, ◌++◌, codes, refl, sym, ap, subst, ◌∙◌}
use Rattle.ba_tree.specs.declared.trees.Tree.{Tree}
use Rattle.ba_xml_reader.proofs.SoundComments.{LeadsComment, comment_character, comment_second, comment_ends}
use Rattle.ba_xml_reader.proofs.SoundKinds.{IsMark, mark_of_kind, differs, character_kind}
use Rattle.ba_xml_reader.proofs.SoundLeads.{LeadsBody, Leads, Goes}
use Rattle.ba_xml_reader.proofs.SoundPieces.{Follows, LeadsReference, reference_follows, character_follows}
use Rattle.ba_xml_reader.proofs.SoundSections.{section_third, section_character, section_ends, nowhere_brackets, nowhere_third}
use Rattle.ba_xml_words.proofs.SoundWords.{LeftOf, word_left}
use Rattle.ba_xml_reader.proofs.CompleteContent.{brackets, section_word, Differing, hyphen_kind, greater_kind, bracket_kind}
use Rattle.ba_xml_reader.proofs.CompletePieces.{less_kind}
use Rattle.ba_xml_reader.proofs.CompleteReferences.{refers}
use Rattle.ba_xml_words.specs.Classes.{class_of, mark_of}
use Rattle.ba_xml_reader.specs.inside.Content.{within_after, greater_after, one_more, comment_more, comment_end, comment_after}
use Rattle.ba_xml_reader.specs.inside.Content.{bracketed_by, bracketed_after, section_after, bracket_held, section_end, section_more}
use Rattle.ba_xml_reader.specs.inside.Content.{reference_by, reference_after}
use Rattle.ba_xml_names.specs.inside.Levels.{put_all}
use Rattle.ba_xml_words.specs.inside.References.{referred}
use Rattle.ba_xml_words.specs.inside.Words.{reached_at}
use Rattle.ba_xml_grammar.specs.GrammarWords.{Nowhere, is_character}
use Rattle.ba_xml_words.specs.declared.classes.Class.{Class}
use Rattle.ba_xml_words.specs.declared.classes.Class.TheVariants as class
use Rattle.ba_xml_names.specs.declared.levels.Level.{Level}
use Rattle.ba_xml_words.specs.declared.references.Partial.{Partial}
use Rattle.ba_xml_words.specs.declared.references.Referred.{Referred}
use Rattle.ba_xml_words.specs.declared.references.Referred.TheVariants as referred'
use Rattle.ba_xml_reader.specs.declared.states.Mode.TheVariants as mode
use Rattle.ba_xml_reader.specs.declared.states.Seen.{Seen}
use Rattle.ba_xml_reader.specs.declared.states.Seen.TheVariants.{Zero, One, Two}
use Rattle.ba_xml_words.specs.declared.words.Progress.{Progress}
use Rattle.ba_xml_words.specs.declared.words.Progress.TheVariants as progress

ampersand_kind : class_of 38 ≡ class.Ampersand
unfolding class_of mark_of
ampersand_kind = refl

-- ---- comments

abbrev CommentBack : List Level → Level → Seen → Tree → ℕ → List ℕ → Type 0
CommentBack outer here seen t b bs = LeadsComment seen (λ rest. Follows outer here Zero rest t) (b ∷ bs)

comment_zero : (outer : List Level) (here : Level) (t : Tree) (b : ℕ) (bs : List ℕ) (k : Class) → class_of b ≡ k → IsMark k b
    → Goes (comment_more outer here One k) bs t → CommentBack outer here Zero t b bs
comment_zero outer here t b bs class.Control e m g = absurd g
comment_zero outer here t b bs class.Hyphen e m g =
    subst (λ x. LeadsComment Zero (λ rest. Follows outer here Zero rest t) (x ∷ bs)) (sym m) g
comment_zero outer here t b bs k e m g = comment_character (λ rest. Follows outer here Zero rest t) b bs (character_kind b k e tt)
    (Differing b 45 (differs b 45 k class.Hyphen e hyphen_kind refl)) g

comment_one : (outer : List Level) (here : Level) (t : Tree) (b : ℕ) (bs : List ℕ) (k : Class) → class_of b ≡ k → IsMark k b
    → Goes (comment_more outer here Two k) bs t → CommentBack outer here One t b bs
comment_one outer here t b bs class.Control e m g = absurd g
comment_one outer here t b bs class.Hyphen e m g = subst (λ x. LeadsComment One (λ rest. Follows outer here Zero rest t) (x ∷ bs)) (sym m) g
comment_one outer here t b bs k e m g = comment_second (λ rest. Follows outer here Zero rest t) b bs (character_kind b k e tt)
    (Differing b 45 (differs b 45 k class.Hyphen e hyphen_kind refl)) g

comment_two : (outer : List Level) (here : Level) (t : Tree) (b : ℕ) (bs : List ℕ) (k : Class) → class_of b ≡ k → IsMark k b
    → Goes (comment_end outer here k) bs t → CommentBack outer here Two t b bs
comment_two outer here t b bs class.Greater e m g =
    subst (λ x. LeadsComment Two (λ rest. Follows outer here Zero rest t) (x ∷ bs)) (sym m)
    (comment_ends (λ rest. Follows outer here Zero rest t) bs g)
comment_two outer here t b bs _ e m g = absurd g

pub comment_back : (outer : List Level) (here : Level) (seen : Seen) (t : Tree) (b : ℕ) (bs : List ℕ) (k : Class) → class_of b ≡ k
    → Goes (comment_after outer here seen k) bs t → CommentBack outer here seen t b bs
comment_back outer here Zero t b bs k e g = comment_zero outer here t b bs k e (mark_of_kind b k e) g
comment_back outer here One t b bs k e g = comment_one outer here t b bs k e (mark_of_kind b k e) g
comment_back outer here Two t b bs k e g = comment_two outer here t b bs k e (mark_of_kind b k e) g

-- ---- sections

held_back : (outer : List Level) (here : Level) (body : List ℕ) (seen : Seen) (t : Tree) (b : ℕ) (bs : List ℕ) → b ≡ 93
    → Goes (bracket_held outer here body seen b) bs t → LeadsBody outer here t body seen (93 ∷ bs)
held_back outer here body Zero t b bs e g = g
held_back outer here body One t b bs e g = g
held_back outer here body Two t b bs e g =
    section_third body (λ body rest. Follows outer (put_all here body) Zero rest t) bs
    (subst (λ x. LeadsBody outer here t (body ++ x ∷ []) Two bs) e g)

not_two_one : One ≡ Two → ⊥
not_two_one e = cc

not_two_zero : Zero ≡ Two → ⊥
not_two_zero e = cc

section_character_back : (outer : List Level) (here : Level) (body : List ℕ) (seen : Seen) (t : Tree) (b : ℕ) (bs : List ℕ)
    → is_character b ≡ true → (b ≡ 93 → ⊥) → (seen ≡ Two → b ≡ 62 → ⊥)
    → Goes (section_more outer here body seen b) bs t → LeadsBody outer here t body seen (b ∷ bs)
section_character_back outer here body seen t b bs c n g l =
    section_character body seen (λ body rest. Follows outer (put_all here body) Zero rest t) b bs c n g l

section_greater : (outer : List Level) (here : Level) (body : List ℕ) (seen : Seen) (t : Tree) (b : ℕ) (bs : List ℕ) → b ≡ 62
    → is_character b ≡ true → (b ≡ 93 → ⊥)
    → Goes (section_end outer here body seen b) bs t → LeadsBody outer here t body seen (b ∷ bs)
section_greater outer here body Two t b bs e c n g =
    subst (λ x. LeadsBody outer here t body Two (x ∷ bs)) (sym e)
    (section_ends body (λ body rest. Follows outer (put_all here body) Zero rest t) bs g)
section_greater outer here body One t b bs e c n g = section_character_back outer here body One t b bs c n (λ s f. not_two_one s) g
section_greater outer here body Zero t b bs e c n g = section_character_back outer here body Zero t b bs c n (λ s f. not_two_zero s) g

section_by : (outer : List Level) (here : Level) (body : List ℕ) (seen : Seen) (t : Tree) (b : ℕ) (bs : List ℕ) (k : Class) → class_of b ≡ k
    → IsMark k b → Goes (section_after outer here body seen b k) bs t → LeadsBody outer here t body seen (b ∷ bs)
section_by outer here body seen t b bs class.Control e m g = absurd g
section_by outer here body seen t b bs class.CloseBracket e m g =
    subst (λ x. LeadsBody outer here t body seen (x ∷ bs)) (sym m) (held_back outer here body seen t b bs m g)
section_by outer here body seen t b bs class.Greater e m g =
    section_greater outer here body seen t b bs m (character_kind b class.Greater e tt)
    (Differing b 93 (differs b 93 class.Greater class.CloseBracket e bracket_kind refl)) g
section_by outer here body seen t b bs k e m g =
    section_character_back outer here body seen t b bs (character_kind b k e tt)
    (Differing b 93 (differs b 93 k class.CloseBracket e bracket_kind refl))
    (λ s. Differing b 62 (differs b 62 k class.Greater e greater_kind refl)) g

pub section_back : (outer : List Level) (here : Level) (body : List ℕ) (seen : Seen) (t : Tree) (b : ℕ) (bs : List ℕ) (k : Class)
    → class_of b ≡ k → Goes (section_after outer here body seen b k) bs t → LeadsBody outer here t body seen (b ∷ bs)
section_back outer here body seen t b bs k e g = section_by outer here body seen t b bs k e (mark_of_kind b k e) g

-- "CDATA["
bracketed_from : (outer : List Level) (here : Level) (count : ℕ) (t : Tree) (b : ℕ) (bs : List ℕ) (p : Progress)
    → LeftOf (codes "CDATA[") count b p → Goes (bracketed_by outer here p) bs t
    → Leads outer here (mode.Bracketed count) (b ∷ bs) t
bracketed_from outer here count t b bs progress.Nowhere l g = absurd g
bracketed_from outer here count t b bs (progress.Part more) l g = (g.0, ap (λ x. b ∷ x) g.1 ∙ ap (λ x. x ++ g.0) (sym l), g.2)
bracketed_from outer here count t b bs progress.Whole l g = (bs, ap (λ x. x ++ bs) (sym l), g)

pub bracketed_back : (outer : List Level) (here : Level) (count : ℕ) (t : Tree) (b : ℕ) (bs : List ℕ)
    → Goes (bracketed_after outer here count b) bs t → Leads outer here (mode.Bracketed count) (b ∷ bs) t
bracketed_back outer here count t b bs g =
    bracketed_from outer here count t b bs (reached_at (codes "CDATA[") count b) (word_left (codes "CDATA[") count b) g

-- ---- references

reference_from : (outer : List Level) (here : Level) (partial : Partial) (t : Tree) (b : ℕ) (bs : List ℕ) (r : Referred)
    → referred partial b ≡ r → Goes (reference_by outer here r) bs t → LeadsReference outer here t partial (b ∷ bs)
reference_from outer here partial t b bs referred'.Wrong e g = absurd g
reference_from outer here partial t b bs (referred'.On more) e g =
    (b ∷ g.0, g.1, g.2, ap (λ r. refers r g.0) e ∙ g.3, ap (λ x. b ∷ x) g.4, g.5)
reference_from outer here partial t b bs (referred'.Meant c) e g = (b ∷ [], bs, c, ap (λ r. refers r []) e, refl, g)

pub reference_back : (outer : List Level) (here : Level) (partial : Partial) (t : Tree) (b : ℕ) (bs : List ℕ)
    → Goes (reference_after outer here partial b) bs t → LeadsReference outer here t partial (b ∷ bs)
reference_back outer here partial t b bs g = reference_from outer here partial t b bs (referred partial b) refl g

-- ---- pieces of an element

greater_back : (parent : Level) (above : List Level) (here : Level) (seen : Seen) (t : Tree) (b : ℕ) (bs : List ℕ) → is_character b ≡ true
    → (b == 60) ≡ false → (b == 38) ≡ false → (b ≡ 93 → ⊥)
    → Goes (greater_after (parent ∷ above) here seen b) bs t → Follows (parent ∷ above) here seen (b ∷ bs) t
greater_back parent above here Two t b bs c d a n g = absurd g
greater_back parent above here One t b bs c d a n g =
    character_follows parent above here One Zero t b bs c d a (λ more w. nowhere_brackets One b more n (λ s f. not_two_one s) w) g
greater_back parent above here Zero t b bs c d a n g =
    character_follows parent above here Zero Zero t b bs c d a (λ more w. nowhere_brackets Zero b more n (λ s f. not_two_zero s) w) g

bracket_back : (seen : Seen) (more : List ℕ) → Nowhere section_word (brackets (one_more seen) more)
    → Nowhere section_word (brackets seen (93 ∷ more))
bracket_back Zero more w = w
bracket_back One more w = w
bracket_back Two more w = nowhere_third more w

pub within_by : (parent : Level) (above : List Level) (here : Level) (seen : Seen) (t : Tree) (b : ℕ) (bs : List ℕ) (k : Class)
    → class_of b ≡ k → IsMark k b
    → Goes (within_after (parent ∷ above) here seen b k) bs t → Follows (parent ∷ above) here seen (b ∷ bs) t
within_by parent above here seen t b bs class.Less e m g = subst (λ x. Follows (parent ∷ above) here seen (x ∷ bs) t) (sym m) (g seen)
within_by parent above here seen t b bs class.Ampersand e m g =
    subst (λ x. Follows (parent ∷ above) here seen (x ∷ bs) t) (sym m) (reference_follows parent above here seen t bs g)
within_by parent above here seen t b bs class.Control e m g = absurd g
within_by parent above here seen t b bs class.CloseBracket e m g =
    character_follows parent above here seen (one_more seen) t b bs (character_kind b class.CloseBracket e tt)
    (differs b 60 class.CloseBracket class.Less e less_kind refl) (differs b 38 class.CloseBracket class.Ampersand e ampersand_kind refl)
    (λ more w. subst (λ x. Nowhere section_word (brackets seen (x ∷ more))) (sym m) (bracket_back seen more w)) g
within_by parent above here seen t b bs class.Greater e m g =
    greater_back parent above here seen t b bs (character_kind b class.Greater e tt)
    (differs b 60 class.Greater class.Less e less_kind refl)
    (differs b 38 class.Greater class.Ampersand e ampersand_kind refl)
    (Differing b 93 (differs b 93 class.Greater class.CloseBracket e bracket_kind refl)) g
within_by parent above here seen t b bs k e m g =
    character_follows parent above here seen Zero t b bs (character_kind b k e tt) (differs b 60 k class.Less e less_kind refl)
    (differs b 38 k class.Ampersand e ampersand_kind refl)
    (λ more w. nowhere_brackets seen b more (Differing b 93 (differs b 93 k class.CloseBracket e bracket_kind refl))
    (λ s. Differing b 62 (differs b 62 k class.Greater e greater_kind refl)) w) g
