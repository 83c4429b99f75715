-- IDENT's version (§8.4: two integers with a colon between them) and pages (§7.6: 1 to the desk's limit).
-- Assumes nothing.
use Rattle.std.specs.Prelude.{cond, List, ℕ, eqb, ltb, None, Option, Some}
use Rattle.value.specs.Integer.{integer_of}
use Rattle.value.specs.Parts.{colon, cut_at, before, after, within}
use Rattle.value.specs.declared.Version.{Version}

abbrev pub version : ℕ → ℕ → Version
version a b = record { major = a; minor = b }

unfoldable pub versioned_of : Option ℕ → Option ℕ → Option Version
versioned_of None b = None
versioned_of (Some a) None = None
versioned_of (Some a) (Some b) = Some (version a b)

unfoldable pub version_of : List ℕ → Option Version
version_of s =
    let n = cut_at colon s in
    cond (within n s) (versioned_of (integer_of (before n s)) (integer_of (after n s))) None

unfoldable pub paged_of : ℕ → Option ℕ → Option ℕ
paged_of limit None = None
paged_of limit (Some v) = cond (eqb v 0) None (cond (ltb limit v) None (Some v))

unfoldable pub page_of : ℕ → List ℕ → Option ℕ
page_of limit s = paged_of limit (integer_of s)
