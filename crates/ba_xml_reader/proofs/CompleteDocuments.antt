-- The machine over a whole document.
use Rattle.std.proofs.Common.{◌≡◌, ℕ, Bool, true, false, Some, List, [], ◌∷◌, ◌++◌, refl, sym, ap, ◌∙◌}
use Rattle.ba_tree.specs.declared.trees.Content.{Content}
use Rattle.ba_tree.specs.declared.trees.Content.TheVariants.{Child, outs-Child}
use Rattle.ba_tree.specs.declared.trees.Tree.{Tree}
use Rattle.ba_xml_reader.proofs.CompleteContent.{comment_runs, hyphen_kind}
use Rattle.ba_xml_reader.proofs.CompleteHeadings.{head_runs}
use Rattle.ba_xml_reader.proofs.CompleteNames.{letter_kind}
use Rattle.ba_xml_reader.proofs.CompletePieces.{Firsts, less_kind, exclamation_kind, holding, pieces_run, empty_runs, element_runs}
use Rattle.ba_xml_reader.proofs.CompletePieces.{row_safe}
use Rattle.ba_xml_reader.proofs.CompleteSteps.{steps, none, one, by_kind, go, space_kind}
use Rattle.ba_xml_words.specs.Classes.{is_space, class_of, mark_of}
use Rattle.ba_xml_names.specs.inside.Levels.{settled, child_level}
use Rattle.ba_xml_reader.specs.inside.Machine.{state_after, act_by, document, ended, child_by}
use Rattle.ba_xml_words.specs.inside.Names.{spelled}
use Rattle.ba_xml_names.specs.Namespaces.{first_scope}
use Rattle.ba_xml_grammar.specs.Grammar.{Start, Pieces, nothing, empty, element, Misc, misc_end, misc_space, misc_comment, Head, no_head}
use Rattle.ba_xml_grammar.specs.Grammar.{head, Document, written, written_tag, written_end, written_misc, written_heading, written_mark}
use Rattle.ba_xml_grammar.specs.Grammar.{written_document, meant, meaning, Allowed, IsComment, IsMisc, IsRoot, IsHeading, IsDocument}
use Rattle.ba_xml_grammar.specs.Grammar.{Resolves, Small}
use Rattle.ba_xml_words.specs.declared.classes.Class.TheVariants as class
use Rattle.ba_xml_names.specs.declared.levels.Level.{Level}
use Rattle.ba_xml_words.specs.declared.headings.Heading.TheVariants.{Target}
use Rattle.ba_xml_reader.specs.declared.states.Mode.{Mode}
use Rattle.ba_xml_reader.specs.declared.states.Mode.TheVariants as mode
use Rattle.ba_xml_reader.specs.declared.states.Seen.TheVariants.{Zero}
use Rattle.ba_xml_reader.specs.declared.states.State.{State}
use Rattle.ba_xml_reader.specs.declared.states.State.TheVariants.{At}

question_kind : class_of 63 ≡ class.Question
unfolding class_of mark_of
question_kind = refl

high_kind : class_of 0xEF ≡ class.High
unfolding class_of
high_kind = refl

-- the level of the document with this content
abbrev pub top : List Content → Level
top content = holding document content []

abbrev pub outside : List Content → State
outside content = At [] (top content) (mode.Inside Zero)

-- ---- white space and comments

space_outside : (content : List Content) (b : ℕ) → is_space b ≡ true → state_after (outside content) b ≡ outside content
space_outside [] b e = by_kind [] (top []) (mode.Inside Zero) b class.Space (space_kind b e)
space_outside (c ∷ cs) b e = by_kind [] (top (c ∷ cs)) (mode.Inside Zero) b class.Space (space_kind b e)

less_outside : (content : List Content) (bs : List ℕ) → steps (outside content) (60 ∷ bs) ≡ steps (At [] (top content) mode.Open) bs
less_outside [] bs = go [] (top []) (mode.Inside Zero) 60 class.Less bs less_kind
less_outside (c ∷ cs) bs = go [] (top (c ∷ cs)) (mode.Inside Zero) 60 class.Less bs less_kind

comment_outside : (content : List Content) (body rest : List ℕ) → IsComment body
    → steps (At [] (top content) mode.Open) (33 ∷ 45 ∷ 45 ∷ (body ++ 45 ∷ 45 ∷ 62 ∷ rest)) ≡ steps (outside content) rest
comment_outside content body rest c = go [] (top content) mode.Open 33 class.Exclamation (45 ∷ 45 ∷ (body ++ 45 ∷ 45 ∷ 62 ∷ rest))
    exclamation_kind
    ∙ go [] (top content) mode.Exclaimed 45 class.Hyphen (45 ∷ (body ++ 45 ∷ 45 ∷ 62 ∷ rest)) hyphen_kind
    ∙ comment_runs [] (top content) body rest c

pub misc_runs : (content : List Content) (m : Misc) (rest : List ℕ) → IsMisc m
    → steps (outside content) (written_misc m rest) ≡ steps (outside content) rest
misc_runs content misc_end rest i = refl
misc_runs content (misc_space b more) rest i =
    one (outside content) (outside content) b (written_misc more rest) (space_outside content b i.0) ∙ misc_runs content more rest i.1
misc_runs content (misc_comment body more) rest i = less_outside content (33 ∷ 45 ∷ 45 ∷ (body ++ 45 ∷ 45 ∷ 62 ∷ written_misc more rest))
    ∙ comment_outside content body (written_misc more rest) i.0 ∙ misc_runs content more rest i.1

-- ---- up to the root's name

-- a state at which a text may begin
abbrev pub Begins : State → Type 0
Begins from = ((b : ℕ) → is_space b ≡ true → state_after from b ≡ outside [])
    × ((bs : List ℕ) → steps from (60 ∷ bs) ≡ steps (At [] document mode.FirstOpen) bs)

begins : Begins (At [] document mode.Begin)
begins = (λ b e. by_kind [] document mode.Begin b class.Space (space_kind b e), λ bs. go [] document mode.Begin 60 class.Less bs less_kind)

begins_behind_mark : Begins (At [] document mode.First)
begins_behind_mark = (
  λ b e. by_kind [] document mode.First b class.Space (space_kind b e),
  λ bs. go [] document mode.First 60 class.Less bs less_kind,
)

first_open : Firsts [] document (At [] document mode.FirstOpen)
first_open b e = by_kind [] document mode.FirstOpen b class.Letter (letter_kind b e)

open_outside : Firsts [] document (At [] document mode.Open)
open_outside b e = by_kind [] document mode.Open b class.Letter (letter_kind b e)

-- the machine stands right before the root's name
abbrev pub ReachesRoot : State → List ℕ → List ℕ → Type 0
ReachesRoot from bs rest = (at : State) × Firsts [] document at × (steps from bs ≡ steps at rest)

misc_reaches : (m : Misc) (rest : List ℕ) → IsMisc m → ReachesRoot (outside []) (written_misc m (60 ∷ rest)) rest
misc_reaches m rest i = (At [] document mode.Open, open_outside, misc_runs [] m (60 ∷ rest) i ∙ less_outside [] rest)

first_exclamation : (bs : List ℕ) → steps (At [] document mode.FirstOpen) (33 ∷ bs) ≡ steps (At [] document mode.Open) (33 ∷ bs)
first_exclamation bs = go [] document mode.FirstOpen 33 class.Exclamation bs exclamation_kind
    ∙ sym (go [] document mode.Open 33 class.Exclamation bs exclamation_kind)

joined_by : (from to : State) (bs cs rest : List ℕ) → steps from bs ≡ steps to cs → ReachesRoot to cs rest → ReachesRoot from bs rest
joined_by from to bs cs rest e r = (r.0, r.1, e ∙ r.2)

start_reaches : (from : State) → Begins from → (m : Misc) (rest : List ℕ) → IsMisc m → ReachesRoot from (written_misc m (60 ∷ rest)) rest
start_reaches from g misc_end rest i = (At [] document mode.FirstOpen, first_open, g.1 rest)
start_reaches from g (misc_space b more) rest i =
    joined_by from (outside []) (b ∷ written_misc more (60 ∷ rest)) (written_misc more (60 ∷ rest)) rest
    (one from (outside []) b (written_misc more (60 ∷ rest)) (g.0 b i.0)) (misc_reaches more rest i.1)
start_reaches from g (misc_comment body more) rest i =
    joined_by from (outside []) (60 ∷ 33 ∷ 45 ∷ 45 ∷ (body ++ 45 ∷ 45 ∷ 62 ∷ written_misc more (60 ∷ rest)))
    (written_misc more (60 ∷ rest)) rest
    (g.1 (33 ∷ 45 ∷ 45 ∷ (body ++ 45 ∷ 45 ∷ 62 ∷ written_misc more (60 ∷ rest)))
    ∙ first_exclamation (45 ∷ 45 ∷ (body ++ 45 ∷ 45 ∷ 62 ∷ written_misc more (60 ∷ rest)))
    ∙ comment_outside [] body (written_misc more (60 ∷ rest)) i.0)
    (misc_reaches more rest i.1)

question_step : (bs : List ℕ) → steps (At [] document mode.FirstOpen) (63 ∷ bs) ≡ steps (At [] document (mode.Declaring (Target 0))) bs
question_step bs = go [] document mode.FirstOpen 63 class.Question bs question_kind

pub heading_reaches : (from : State) → Begins from → (h : Head) (m : Misc) (rest : List ℕ) → IsHeading h → IsMisc m
    → ReachesRoot from (written_heading h (written_misc m (60 ∷ rest))) rest
heading_reaches from g no_head m rest h i = start_reaches from g m rest i
heading_reaches from g (head v c s ws) m rest h i =
    joined_by from (outside []) (written_heading (head v c s ws) (written_misc m (60 ∷ rest))) (written_misc m (60 ∷ rest)) rest
    (g.1 _ ∙ question_step _ ∙ head_runs v c s ws (written_misc m (60 ∷ rest)) h) (misc_reaches m rest i)

mark_step : (from to : Mode) (b : ℕ) (bs : List ℕ) → act_by [] document from b class.High ≡ At [] document to → class_of b ≡ class.High
    → steps (At [] document from) (b ∷ bs) ≡ steps (At [] document to) bs
mark_step from to b bs e k = go [] document from b class.High bs k ∙ ap (λ s. steps s bs) e

second_mark_kind : class_of 0xBB ≡ class.High
unfolding class_of
second_mark_kind = refl

third_mark_kind : class_of 0xBF ≡ class.High
unfolding class_of
third_mark_kind = refl

-- from the beginning, over the byte order mark or none
pub mark_begins : (mark : Bool) → (from : State) × Begins from
    × ((bs : List ℕ) → steps (At [] document mode.Begin) (written_mark mark bs) ≡ steps from bs)
mark_begins false = (At [] document mode.Begin, begins, λ bs. refl)
mark_begins true = (
  At [] document mode.First,
  begins_behind_mark,
  λ bs. mark_step mode.Begin mode.MarkOne 0xEF (0xBB ∷ 0xBF ∷ bs) refl high_kind
      ∙ mark_step mode.MarkOne mode.MarkTwo 0xBB (0xBF ∷ bs) refl second_mark_kind
      ∙ mark_step mode.MarkTwo mode.First 0xBF bs refl third_mark_kind,
)

-- ---- the root, and what stands behind it

abbrev RootRuns : Pieces → List ℕ → Type 0
RootRuns root rest = (from : State) → Begins from → (h : Head) (m : Misc) → IsHeading h → IsMisc m
    → steps from (written_heading h (written_misc m (written root rest))) ≡ steps (outside (meaning first_scope root)) rest

empty_root : (s : Start) (rest : List ℕ) → Allowed (empty s nothing) → Resolves first_scope (empty s nothing) → Small 1 (empty s nothing)
    → RootRuns (empty s nothing) rest
empty_root s rest a r l from g h m ih im = by (heading_reaches from g h m (written_tag s (47 ∷ 62 ∷ rest)) ih im)
  where
    by : ReachesRoot from (written_heading h (written_misc m (60 ∷ written_tag s (47 ∷ 62 ∷ rest)))) (written_tag s (47 ∷ 62 ∷ rest))
        → steps from (written_heading h (written_misc m (60 ∷ written_tag s (47 ∷ 62 ∷ rest))))
        ≡ steps (outside (meaning first_scope (empty s nothing))) rest
    by x = x.2 ∙ empty_runs [] document x.0 s rest x.1 a.0 l.1 r.0

element_root : (s : Start) (inside : Pieces) (space rest : List ℕ) → Allowed (element s inside space nothing)
    → Resolves first_scope (element s inside space nothing) → Small 1 (element s inside space nothing)
    → RootRuns (element s inside space nothing) rest
element_root s inside space rest a r l from g h m ih im =
    by (heading_reaches from g h m (written_tag s (62 ∷ written inside (written_end s.name space rest))) ih im)
  where
    by : ReachesRoot from (written_heading h (written_misc m (60 ∷ written_tag s (62 ∷ written inside (written_end s.name space rest)))))
        (written_tag s (62 ∷ written inside (written_end s.name space rest)))
        → steps from (written_heading h (written_misc m (60 ∷ written_tag s (62 ∷ written inside (written_end s.name space rest)))))
        ≡ steps (outside (meaning first_scope (element s inside space nothing))) rest
    by x = x.2 ∙ element_runs [] document x.0 s inside space rest x.1 a.0 l.1 r.0 a.2
        (λ after. pieces_run (settled document) [] (child_level (meant first_scope s) (spelled s.name)) [] [] Zero 2 inside after (
          a.1,
          row_safe inside a.1,
          r.1,
          l.2,
          refl,
        ))

root_runs : (root : Pieces) (rest : List ℕ) → IsRoot root → Allowed root → Resolves first_scope root → Small 1 root → RootRuns root rest
root_runs (empty s nothing) rest i a r l = empty_root s rest a r l
root_runs (element s inside space nothing) rest i a r l = element_root s inside space rest a r l
root_runs _ rest i a r l = absurd i

pub document_runs : (d : Document) (tree : Tree) → IsDocument d → Resolves first_scope d.root → meaning first_scope d.root ≡ Child tree ∷ []
    → Small 1 d.root
    → steps (At [] document mode.Begin) (written_document d) ≡ outside (Child tree ∷ [])
document_runs d tree i r e l = by (mark_begins d.mark)
  where
    rest : List ℕ
    rest = written_heading d.heading (written_misc d.before (written d.root (written_misc d.behind [])))

    by : (from : State) × Begins from × ((bs : List ℕ) → steps (At [] document mode.Begin) (written_mark d.mark bs) ≡ steps from bs)
        → steps (At [] document mode.Begin) (written_document d) ≡ outside (Child tree ∷ [])
    by m = m.2 rest ∙ root_runs d.root (written_misc d.behind []) i.2 i.3 r l m.0 m.1 d.heading d.before i.0 i.1
        ∙ misc_runs (meaning first_scope d.root) d.behind [] i.4
        ∙ none (outside (meaning first_scope d.root)) ∙ ap outside e

-- the document's tree, where its text ends
pub ended_tree : (tree : Tree) → ended [] (top (Child tree ∷ [])) (mode.Inside Zero) ≡ Some tree
ended_tree tree = ap child_by (outs-Child tree)
