-- The laws of requests.
use Rattle.std.proofs.Common.{◌≡◌, ℕ, List, [], ◌∷◌, Option, None, Some, Ok, refl, inr}
use Rattle.std.specs.Prelude.{option_map}
use Rattle.hdt_wire.specs.declared.Role.TheVariants.{Subject, Predicate, Object}
use Rattle.hdt_terms.specs.declared.triple.Term.{Term}
use Rattle.hdt_terms.specs.RequestParsing.{pattern_term_after_whitespace, optional_stop_after_whitespace, request_at}
use Rattle.hdt_terms.specs.RequestParsing.{request_in}
use Rattle.hdt_terms.specs.Lines.{Line}
use Rattle.hdt_terms.specs.declared.triple.Triple.{Triple}
use Rattle.hdt_terms.specs.Requests.{TermPattern, RequestLine, pattern_of_triple}
use Rattle.hdt_terms.proofs.Cases.{done}
use Rattle.hdt_terms.proofs.LineSoundness.{bare_found}
use Rattle.hdt_terms.proofs.LineLaws.{line_read}
use Rattle.hdt_terms.proofs.RequestSoundness.{request_found}

-- ---- the exits

pub parts_read : (text r1 r2 r3 : List ℕ) (s p o : Option Term) (done : Unit {0})
    → pattern_term_after_whitespace Subject text ≡ Ok (s, r1) → pattern_term_after_whitespace Predicate r1 ≡ Ok (p, r2)
    → pattern_term_after_whitespace Object r2 ≡ Ok (o, r3) → optional_stop_after_whitespace r3 ≡ Ok done
    → request_at text ≡ Ok (record { s = s; p = p; o = o })
unfolding request_at
parts_read text r1 r2 r3 s p o done hs hp ho hd = rw (hs, hp, ho, hd) refl

-- ---- the laws

pub asked_found : (text : List ℕ) (x : Option TermPattern) → request_in text ≡ Ok x → RequestLine text x
asked_found = line_read RequestLine request_at (λ text utf8 b. (utf8, bare_found text b))
    (λ text asked utf8 b e. (utf8, request_found text asked utf8 e))

-- a line of a document is a request for its triple
pub triple_asked : (text : List ℕ) (x : Option Triple) → Line text x → RequestLine text (option_map pattern_of_triple x)
triple_asked text None h = h
triple_asked text (Some triple) h = (
  h.0,
  record {
    before_s = h.1.before_s;
    before_p = h.1.before_p;
    before_o = h.1.before_o;
    before_stop = h.1.before_stop;
    whitespace = h.1.whitespace;
    s = h.1.s;
    p = h.1.p;
    o = h.1.o;
    stop = 46 ∷ [];
    behind = h.1.behind;
    subject = h.1.subject;
    predicate = h.1.predicate;
    object = (h.1.object, tt);
    is_stop = inr refl;
    trailing = h.1.trailing;
    whole = h.1.whole;
  },
)
