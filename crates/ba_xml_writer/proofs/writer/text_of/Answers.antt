use Rattle.std.proofs.Common.{◌≡◌, ◌∙◌, sym, List, ℕ, [], ◌++◌, append-nil}
use Rattle.ba_tree.specs.declared.trees.Tree.{Tree}
use Rattle.ba_xml_writer.specs.Namespaces.{further}
use Rattle.ba_xml_writer.specs.OneText.{root_text, one_text}
use Rattle.ba_xml_writer.proofs.writer.text_of.Goals as goal

whole : (new old : List ℕ) (spaces : List (List ℕ)) (t : Tree) → new ++ [] ≡ old ++ root_text spaces t → old ≡ [] → spaces ≡ further t
    → new ≡ one_text t
whole new old spaces t put begun met = sym (append-nil new) ∙ (put ∙ (λ i. begun i ++ root_text (met i) t))

pub returns : goal.returns
returns c =
    whole c.put_root.new.page c.new-text.result c.as_slice.result.now c.args.tree.now c.in_ok-put_root.ensures c.new-text.ensures
    (c.as_slice.ensures.keys ∙ c.in_ok-spaces.ensures)
