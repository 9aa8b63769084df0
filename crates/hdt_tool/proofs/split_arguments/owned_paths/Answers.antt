use Rattle.std.proofs.Common.{◌≡◌, ◌∙◌, ap, sym, List, [], None, Option, Some, codes, map, string_bytes}
use Rattle.std.specs.Prelude.{option_map, unwrap_or}
use Rattle.std.proofs.lemmas.Result.{IfOk-weaker}
use Rattle.clap.specs.Words.{Text, all_of, found_of, rows_of}
use Rattle.clap.proofs.WalkLemmas.{raw_values-rows}
use Rattle.hdt_tool.proofs.split_arguments.owned_paths.Goals as goal

pub returns-in-Some : goal.returns-in-Some
returns-in-Some c =
    let entry : all_of (codes "PATHS") (rows_of (found_of c.args.matches.now))
    ≡ Some (map (λ text. text.now) c.in-Some.texts.now) =
    sym (raw_values-rows (found_of c.args.matches.now) (codes "PATHS")) ∙ sym c.get_strs.ensures
    ∙ ap (option_map (λ s. map (λ v. v.now) s.now)) c.in-Some.is in
    IfOk-weaker c.owned_texts.result _ _ (λ paths h. h
    ∙ sym (ap (λ (o : Option (List Text)). unwrap_or o []) entry)) c.owned_texts.ensures

pub returns-in-None : goal.returns-in-None
returns-in-None c =
    let entry : all_of (codes "PATHS") (rows_of (found_of c.args.matches.now)) ≡ None =
    sym (raw_values-rows (found_of c.args.matches.now) (codes "PATHS")) ∙ sym c.get_strs.ensures
    ∙ ap (option_map (λ s. map (λ v. v.now) s.now)) c.in-None.is in
    ap (map (λ s. string_bytes s)) c.new.ensures.items ∙ sym (ap (λ (o : Option (List Text)). unwrap_or o []) entry)
