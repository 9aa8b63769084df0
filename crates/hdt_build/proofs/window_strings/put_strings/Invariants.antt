use Rattle.std.proofs.Common.{◌≡◌, length}
use Rattle.hdt_dict.specs.Dictionary.{role_strings}
use Rattle.hdt_file.specs.Graph.{layout_view}
use Rattle.hdt_build.specs.Inside.WindowStrings.{AreStringsOfIds}
use Rattle.hdt_build.proofs.window_strings.put_strings.Given as goal

abbrev pub invariant-ids : goal.invariant-ids
invariant-ids l =
    record {
      strings : AreStringsOfIds l.prefix (layout_view l.layout) l.fn.role l.ids l.strings;
      all : l.all ≡ role_strings (layout_view l.layout).dictionary l.fn.role;
      count : length l.strings ≡ l.at;
    }
