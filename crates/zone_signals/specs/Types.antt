-- The types of zones, as far as signals go by them.
use Rattle.std.specs.Prelude.{◌≡◌, ◌⊎◌, ◌<◌, ℕ, Option, Some, slice_get, length}
use Rattle.site_types.specs.declared.rule.Rule.TheVariants.{Plain, A, B, C}
use Rattle.site_types.specs.declared.site.Site.{Site}
use Rattle.coincidence_rules.specs.Places.{partner_of, rule_of}

-- a signal of one point counts at once
abbrev pub IsOfOnePoint : Site → ℕ → Type 0
IsOfOnePoint site zone = (rule_of (slice_get site.zones zone) ≡ Some Plain)
    ⊎ (rule_of (slice_get site.zones zone) ≡ Some C)

pub record IsTypeA (site : Site) (zone verify within : ℕ) : Type 0 where
  pub inside : zone < length site.zones
  pub rule : rule_of (slice_get site.zones zone) ≡ Some (A verify within)

pub record IsTypeB (site : Site) (zone : ℕ) (partner : Option ℕ) (within : ℕ) : Type 0 where
  pub inside : zone < length site.zones
  pub is_partner : partner_of (slice_get site.zones zone) ≡ partner
  pub rule : rule_of (slice_get site.zones zone) ≡ Some (B within)

pub record IsTypeC (site : Site) (zone : ℕ) (partner : Option ℕ) : Type 0 where
  pub inside : zone < length site.zones
  pub is_partner : partner_of (slice_get site.zones zone) ≡ partner
  pub rule : rule_of (slice_get site.zones zone) ≡ Some C
