-- One byte backward in the states between tags, in comments, sections and references.
use Rattle.std.proofs.Common.{◌≡◌, ℕ, true, false, ◌==◌, List, [], ◌∷◌, ◌++◌, codes, refl, sym, ap, subst, ◌∙◌}
use Rattle.ba_tree.specs.declared.trees.Content.{Content}
use Rattle.ba_xml_places.proofs.Leads.{LeadsBody, Leads, Goes}
use Rattle.ba_xml_places.proofs.Pieces.{Here, reference_follows, character_follows, space_outside}
use Rattle.ba_xml_places.proofs.Pieces.{ampersand_kind}
use Rattle.ba_xml_reader.proofs.SoundComments.{comment_character, comment_second, comment_ends}
use Rattle.ba_xml_reader.proofs.SoundKinds.{IsMark, mark_of_kind, differs, character_kind}
use Rattle.ba_xml_reader.proofs.SoundSections.{section_third, section_character, section_ends, nowhere_brackets, nowhere_third}
use Rattle.ba_xml_words.proofs.SoundWords.{LeftOf, word_left}
use Rattle.ba_xml_reader.proofs.CompleteContent.{brackets, section_word, Differing, hyphen_kind, greater_kind, bracket_kind}
use Rattle.ba_xml_reader.proofs.CompletePieces.{less_kind}
use Rattle.ba_xml_reader.proofs.CompleteReferences.{refers}
use Rattle.ba_xml_words.specs.Classes.{class_of}
use Rattle.ba_xml_reader.specs.inside.Content.{within_after, outside_after, inside_at, inside_after, greater_after, one_more}
use Rattle.ba_xml_reader.specs.inside.Content.{comment_more, comment_end, comment_after, bracketed_by, bracketed_after}
use Rattle.ba_xml_reader.specs.inside.Content.{section_after, bracket_held, section_end, section_more, reference_by, reference_after}
use Rattle.ba_xml_names.specs.inside.Levels.{place_outside}
use Rattle.ba_xml_words.specs.inside.References.{referred}
use Rattle.ba_xml_words.specs.inside.Words.{reached_at}
use Rattle.ba_xml_grammar.specs.GrammarWords.{Nowhere, is_character}
use Rattle.ba_xml_words.specs.declared.classes.Class.{Class}
use Rattle.ba_xml_words.specs.declared.classes.Class.TheVariants as class
use Rattle.ba_xml_names.specs.declared.levels.Level.{Level}
use Rattle.ba_xml_words.specs.declared.references.Partial.{Partial}
use Rattle.ba_xml_words.specs.declared.references.Referred.{Referred}
use Rattle.ba_xml_words.specs.declared.references.Referred.TheVariants as referred'
use Rattle.ba_xml_reader.specs.declared.states.Mode.TheVariants as mode
use Rattle.ba_xml_reader.specs.declared.states.Seen.{Seen}
use Rattle.ba_xml_reader.specs.declared.states.Seen.TheVariants.{Zero, One, Two}
use Rattle.ba_xml_words.specs.declared.words.Progress.{Progress}
use Rattle.ba_xml_words.specs.declared.words.Progress.TheVariants as progress

-- ---- comments

comment_zero : (outer : List Level) (here : Level) (b : ℕ) (bs : List ℕ) (k : Class) → class_of b ≡ k → IsMark k b
    → Goes (comment_more outer here One k) bs → Leads outer here (mode.Comment Zero) (b ∷ bs)
comment_zero outer here b bs class.Control e m g = absurd g
comment_zero outer here b bs class.Hyphen e m g = subst (λ x. Leads outer here (mode.Comment Zero) (x ∷ bs)) (sym m) g
comment_zero outer here b bs k e m g = comment_character (λ rest. Here outer here Zero rest) b bs (character_kind b k e tt)
    (Differing b 45 (differs b 45 k class.Hyphen e hyphen_kind refl)) g

comment_one : (outer : List Level) (here : Level) (b : ℕ) (bs : List ℕ) (k : Class) → class_of b ≡ k → IsMark k b
    → Goes (comment_more outer here Two k) bs → Leads outer here (mode.Comment One) (b ∷ bs)
comment_one outer here b bs class.Control e m g = absurd g
comment_one outer here b bs class.Hyphen e m g = subst (λ x. Leads outer here (mode.Comment One) (x ∷ bs)) (sym m) g
comment_one outer here b bs k e m g = comment_second (λ rest. Here outer here Zero rest) b bs (character_kind b k e tt)
    (Differing b 45 (differs b 45 k class.Hyphen e hyphen_kind refl)) g

comment_two : (outer : List Level) (here : Level) (b : ℕ) (bs : List ℕ) (k : Class) → class_of b ≡ k → IsMark k b
    → Goes (comment_end outer here k) bs → Leads outer here (mode.Comment Two) (b ∷ bs)
comment_two outer here b bs class.Greater e m g =
    subst (λ x. Leads outer here (mode.Comment Two) (x ∷ bs)) (sym m) (comment_ends (λ rest. Here outer here Zero rest) bs g)
comment_two outer here b bs _ e m g = absurd g

pub comment_back : (outer : List Level) (here : Level) (seen : Seen) (b : ℕ) (bs : List ℕ) (k : Class) → class_of b ≡ k
    → Goes (comment_after outer here seen k) bs → Leads outer here (mode.Comment seen) (b ∷ bs)
comment_back outer here Zero b bs k e g = comment_zero outer here b bs k e (mark_of_kind b k e) g
comment_back outer here One b bs k e g = comment_one outer here b bs k e (mark_of_kind b k e) g
comment_back outer here Two b bs k e g = comment_two outer here b bs k e (mark_of_kind b k e) g

-- ---- sections

held_back : (outer : List Level) (here : Level) (body : List ℕ) (seen : Seen) (b : ℕ) (bs : List ℕ) → b ≡ 93
    → Goes (bracket_held outer here body seen b) bs → LeadsBody outer here body seen (93 ∷ bs)
held_back outer here body Zero b bs e g = g
held_back outer here body One b bs e g = g
held_back outer here body Two b bs e g = section_third body (λ whole rest. Here outer here Zero rest) bs
    (subst (λ x. LeadsBody outer here (body ++ x ∷ []) Two bs) e g)

not_two_one : One ≡ Two → ⊥
not_two_one e = cc

not_two_zero : Zero ≡ Two → ⊥
not_two_zero e = cc

section_more_back : (outer : List Level) (here : Level) (body : List ℕ) (seen : Seen) (b : ℕ) (bs : List ℕ) → is_character b ≡ true
    → (b ≡ 93 → ⊥) → (seen ≡ Two → b ≡ 62 → ⊥) → Goes (section_more outer here body seen b) bs → LeadsBody outer here body seen (b ∷ bs)
section_more_back outer here body seen b bs c n g l = section_character body seen (λ whole rest. Here outer here Zero rest) b bs c n g l

section_greater : (outer : List Level) (here : Level) (body : List ℕ) (seen : Seen) (b : ℕ) (bs : List ℕ) → b ≡ 62 → is_character b ≡ true
    → (b ≡ 93 → ⊥) → Goes (section_end outer here body seen b) bs → LeadsBody outer here body seen (b ∷ bs)
section_greater outer here body Two b bs e c n g = subst (λ x. LeadsBody outer here body Two (x ∷ bs)) (sym e)
    (section_ends body (λ whole rest. Here outer here Zero rest) bs g)
section_greater outer here body One b bs e c n g = section_more_back outer here body One b bs c n (λ s f. not_two_one s) g
section_greater outer here body Zero b bs e c n g = section_more_back outer here body Zero b bs c n (λ s f. not_two_zero s) g

section_by : (outer : List Level) (here : Level) (body : List ℕ) (seen : Seen) (b : ℕ) (bs : List ℕ) (k : Class) → class_of b ≡ k
    → IsMark k b
    → Goes (section_after outer here body seen b k) bs → LeadsBody outer here body seen (b ∷ bs)
section_by outer here body seen b bs class.Control e m g = absurd g
section_by outer here body seen b bs class.CloseBracket e m g =
    subst (λ x. LeadsBody outer here body seen (x ∷ bs)) (sym m) (held_back outer here body seen b bs m g)
section_by outer here body seen b bs class.Greater e m g = section_greater outer here body seen b bs m (character_kind b class.Greater e tt)
    (Differing b 93 (differs b 93 class.Greater class.CloseBracket e bracket_kind refl)) g
section_by outer here body seen b bs k e m g = section_more_back outer here body seen b bs (character_kind b k e tt)
    (Differing b 93 (differs b 93 k class.CloseBracket e bracket_kind refl))
    (λ s. Differing b 62 (differs b 62 k class.Greater e greater_kind refl)) g

pub section_back : (outer : List Level) (here : Level) (body : List ℕ) (seen : Seen) (b : ℕ) (bs : List ℕ) (k : Class) → class_of b ≡ k
    → Goes (section_after outer here body seen b k) bs → LeadsBody outer here body seen (b ∷ bs)
section_back outer here body seen b bs k e g = section_by outer here body seen b bs k e (mark_of_kind b k e) g

-- "CDATA["
bracketed_from : (outer : List Level) (here : Level) (count : ℕ) (b : ℕ) (bs : List ℕ) (p : Progress) → LeftOf (codes "CDATA[") count b p
    → Goes (bracketed_by outer here p) bs → Leads outer here (mode.Bracketed count) (b ∷ bs)
bracketed_from outer here count b bs progress.Nowhere l g = absurd g
bracketed_from outer here count b bs (progress.Part more) l g = (g.0, ap (λ x. b ∷ x) g.1 ∙ ap (λ x. x ++ g.0) (sym l), g.2)
bracketed_from outer here count b bs progress.Whole l g = (bs, ap (λ x. x ++ bs) (sym l), g)

pub bracketed_back : (outer : List Level) (here : Level) (count : ℕ) (b : ℕ) (bs : List ℕ) → Goes (bracketed_after outer here count b) bs
    → Leads outer here (mode.Bracketed count) (b ∷ bs)
bracketed_back outer here count b bs g =
    bracketed_from outer here count b bs (reached_at (codes "CDATA[") count b) (word_left (codes "CDATA[") count b) g

-- ---- references

reference_from : (outer : List Level) (here : Level) (partial : Partial) (b : ℕ) (bs : List ℕ) (r : Referred) → referred partial b ≡ r
    → Goes (reference_by outer here r) bs → Leads outer here (mode.Reference partial) (b ∷ bs)
reference_from outer here partial b bs referred'.Wrong e g = absurd g
reference_from outer here partial b bs (referred'.On more) e g =
    (b ∷ g.0, g.1, g.2, ap (λ r. refers r g.0) e ∙ g.3, ap (λ x. b ∷ x) g.4, g.5)
reference_from outer here partial b bs (referred'.Meant c) e g = (b ∷ [], bs, c, ap (λ r. refers r []) e, refl, g)

pub reference_back : (outer : List Level) (here : Level) (partial : Partial) (b : ℕ) (bs : List ℕ)
    → Goes (reference_after outer here partial b) bs → Leads outer here (mode.Reference partial) (b ∷ bs)
reference_back outer here partial b bs g = reference_from outer here partial b bs (referred partial b) refl g

-- ---- pieces of an element

greater_back : (parent : Level) (above : List Level) (here : Level) (seen : Seen) (b : ℕ) (bs : List ℕ) → is_character b ≡ true
    → (b == 60) ≡ false → (b == 38) ≡ false → (b ≡ 93 → ⊥) → Goes (greater_after (parent ∷ above) here seen b) bs
    → Here (parent ∷ above) here seen (b ∷ bs)
greater_back parent above here Two b bs c d a n g = absurd g
greater_back parent above here One b bs c d a n g = character_follows parent above here.spelled One Zero b bs c d a
    (λ more w. nowhere_brackets One b more n (λ s f. not_two_one s) w) g
greater_back parent above here Zero b bs c d a n g = character_follows parent above here.spelled Zero Zero b bs c d a
    (λ more w. nowhere_brackets Zero b more n (λ s f. not_two_zero s) w) g

bracket_back : (seen : Seen) (more : List ℕ) → Nowhere section_word (brackets (one_more seen) more)
    → Nowhere section_word (brackets seen (93 ∷ more))
bracket_back Zero more w = w
bracket_back One more w = w
bracket_back Two more w = nowhere_third more w

within_back : (parent : Level) (above : List Level) (here : Level) (seen : Seen) (b : ℕ) (bs : List ℕ) (k : Class) → class_of b ≡ k
    → IsMark k b
    → Goes (within_after (parent ∷ above) here seen b k) bs → Here (parent ∷ above) here seen (b ∷ bs)
within_back parent above here seen b bs class.Less e m g = subst (λ x. Here (parent ∷ above) here seen (x ∷ bs)) (sym m) (g seen)
within_back parent above here seen b bs class.Ampersand e m g =
    subst (λ x. Here (parent ∷ above) here seen (x ∷ bs)) (sym m) (reference_follows parent above here.spelled seen bs g)
within_back parent above here seen b bs class.Control e m g = absurd g
within_back parent above here seen b bs class.CloseBracket e m g =
    character_follows parent above here.spelled seen (one_more seen) b bs (character_kind b class.CloseBracket e tt)
    (differs b 60 class.CloseBracket class.Less e less_kind refl) (differs b 38 class.CloseBracket class.Ampersand e ampersand_kind refl)
    (λ more w. subst (λ x. Nowhere section_word (brackets seen (x ∷ more))) (sym m) (bracket_back seen more w)) g
within_back parent above here seen b bs class.Greater e m g =
    greater_back parent above here seen b bs (character_kind b class.Greater e tt) (differs b 60 class.Greater class.Less e less_kind refl)
    (differs b 38 class.Greater class.Ampersand e ampersand_kind refl)
    (Differing b 93 (differs b 93 class.Greater class.CloseBracket e bracket_kind refl)) g
within_back parent above here seen b bs k e m g = character_follows parent above here.spelled seen Zero b bs (character_kind b k e tt)
    (differs b 60 k class.Less e less_kind refl) (differs b 38 k class.Ampersand e ampersand_kind refl)
    (λ more w. nowhere_brackets seen b more (Differing b 93 (differs b 93 k class.CloseBracket e bracket_kind refl))
    (λ s. Differing b 62 (differs b 62 k class.Greater e greater_kind refl)) w) g

-- ---- around the root

outside_back : (here : Level) (seen : Seen) (b : ℕ) (bs : List ℕ) (k : Class) → IsMark k b → Goes (outside_after [] here k) bs
    → Here [] here seen (b ∷ bs)
outside_back here seen b bs class.Space m g = space_outside here.content b bs m g
outside_back here seen b bs class.Less m g = subst (λ x. Here [] here seen (x ∷ bs)) (sym m) (g seen)
outside_back here seen b bs _ m g = absurd g

outside_at : (content : List Content) (here : Level) (seen : Seen) (b : ℕ) (bs : List ℕ) (k : Class) → IsMark k b
    → Goes (inside_at (place_outside content) [] here seen b k) bs → Here [] here seen (b ∷ bs)
outside_at [] here seen b bs k m g = outside_back here seen b bs k m g
outside_at (c ∷ cs) here seen b bs k m g = outside_back here seen b bs k m g

pub inside_back : (outer : List Level) (here : Level) (seen : Seen) (b : ℕ) (bs : List ℕ) (k : Class) → class_of b ≡ k → IsMark k b
    → Goes (inside_after outer here seen b k) bs → Here outer here seen (b ∷ bs)
inside_back [] here seen b bs k e m g = outside_at here.content here seen b bs k m g
inside_back (parent ∷ above) here seen b bs k e m g = within_back parent above here seen b bs k e m g
