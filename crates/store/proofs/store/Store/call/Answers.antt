use Rattle.std.proofs.Common.{refl}
use Rattle.store.proofs.History.{owed, rowless}
use Rattle.store.proofs.store.Store.call.Goals as goal

pub returns-in-SetUp : goal.returns-in-SetUp
returns-in-SetUp g c = let t = owed (g.M.SiteMap.limits c.args.self.now.map) c.in-SetUp.is (rowless c.args.rows.now refl c.set_up.ensures) in record { told = t.0; since = t.1 }

pub returns-in-Offer : goal.returns-in-Offer
returns-in-Offer g c = let t = owed (g.M.SiteMap.limits c.args.self.now.map) c.in-Offer.is (rowless c.args.rows.now refl c.offer.ensures) in record { told = t.0; since = t.1 }

pub returns-in-Seal : goal.returns-in-Seal
returns-in-Seal g c = let t = owed (g.M.SiteMap.limits c.args.self.now.map) c.in-Seal.is (rowless c.args.rows.now refl c.seal.ensures) in record { told = t.0; since = t.1 }

pub returns-in-Plan : goal.returns-in-Plan
returns-in-Plan g c = let t = owed (g.M.SiteMap.limits c.args.self.now.map) c.in-Plan.is c.plan.ensures in record { told = t.0; since = t.1 }

pub returns-in-Deletions : goal.returns-in-Deletions
returns-in-Deletions g c = let t = owed (g.M.SiteMap.limits c.args.self.now.map) c.in-Deletions.is c.deletions.ensures in record { told = t.0; since = t.1 }

pub returns-in-Standing : goal.returns-in-Standing
returns-in-Standing g c = let t = owed (g.M.SiteMap.limits c.args.self.now.map) c.in-Standing.is (rowless c.args.rows.now refl c.standing.ensures) in record { told = t.0; since = t.1 }

pub returns-in-Release : goal.returns-in-Release
returns-in-Release g c = let t = owed (g.M.SiteMap.limits c.args.self.now.map) c.in-Release.is (rowless c.args.rows.now refl c.release.ensures) in record { told = t.0; since = t.1 }

pub returns-in-Abandon : goal.returns-in-Abandon
returns-in-Abandon g c = let t = owed (g.M.SiteMap.limits c.args.self.now.map) c.in-Abandon.is (rowless c.args.rows.now refl c.abandon.ensures) in record { told = t.0; since = t.1 }
