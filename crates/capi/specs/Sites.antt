-- The site of a question.
use Rattle.site.specs.Site.{Site}
use Rattle.site.specs.Maps.{regular, target}
use Rattle.capi.specs.declared.sites.VaultSite.{VaultSite}

abbrev pub site_of : VaultSite → Site
site_of s = target s.targets (regular s.racks s.each)
