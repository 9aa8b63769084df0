use Rattle.std.proofs.Common.{◌≡◌, ◌++◌, ◌<◌, ◌^◌, codes, rules, subst, sym}
use Rattle.std.specs.Fmt.{decimal}
use Rattle.hdt_dict.specs.Strings.{IsDictionaryString}
use Rattle.hdt_build.proofs.LabelPrefixes.{prefix_text}
use Rattle.hdt_build.proofs.labels.apart_prefix.Goals as goal

pub returns-clause-text : goal.returns-clause-text
returns-clause-text c =
    let is : c.into_bytes.result.items ≡ codes "f" ++ decimal c.args.number ++ codes "_" = search rules in
    let small : c.args.number < 2 ^ 64 = search rules in
    subst IsDictionaryString (sym is) (prefix_text c.args.number small)
