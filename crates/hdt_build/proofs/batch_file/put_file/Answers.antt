use Rattle.std.proofs.Common.{◌≡◌, ◌∙◌, ◌++◌, ℕ, List, ap, append_assoc, subst, sym}
use Rattle.std.proofs.lemmas.Result.{IfOk-weaker}
use Rattle.hdt_wire.specs.Control.{control}
use Rattle.hdt_wire.specs.declared.control.Kind.TheVariants as kinds
use Rattle.hdt_front.specs.Canonical.{canonical}
use Rattle.hdt_dict.specs.Writing.{canonical_dictionary, mapping}
use Rattle.hdt_triples.specs.Writing.{canonical_triples}
use Rattle.hdt_build.specs.Canonical.{canonical_file, canonical_head}
use Rattle.hdt_build.specs.Inside.Groups.{lists_of_states}
use Rattle.hdt_build.specs.Inside.Output.{Puts}
use Rattle.hdt_build.proofs.Outputs.{puts_then}
use Rattle.hdt_build.proofs.batch_file.put_file.Goals as goal

grouped : (head control sections triples : List ℕ)
    → (head ++ control) ++ (sections ++ triples) ≡ head ++ ((control ++ sections) ++ triples)
grouped head control sections triples =
    append_assoc head control (sections ++ triples)
    ∙ ap (λ (l : List ℕ). head ++ l) (sym (append_assoc control sections triples))

pub returns : goal.returns
unfolding canonical_file canonical_dictionary
returns g c =
    let d = lists_of_states c.args.sections.now in
    IfOk-weaker c.put_triples.result _ _
    (λ made last known are some n sized.
    subst (Puts c.args.out made) (grouped (canonical_head c.args.header.now) (control kinds.Dictionary mapping)
    (canonical n d.shared ++ (canonical n d.subjects ++ (canonical n d.predicates ++ canonical n d.objects)))
    (canonical_triples c.args.triples.now))
    (puts_then _ _ _ _ _ c.in_ok-out.ensures
    (puts_then _ _ _ _ _ (c.in_ok-out-2.ensures known n sized) (last known are some))))
    c.put_triples.ensures
