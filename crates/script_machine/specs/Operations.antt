-- The monitor's operations (document 03, section 3) by the script's names for them.
use Rattle.monitor.specs.Answers as A
use Rattle.monitor.specs.Create.{creating}
use Rattle.monitor.specs.Give.{giving}
use Rattle.monitor.specs.Map.{mapping}
use Rattle.monitor.specs.Unmap.{unmapping}
use Rattle.monitor.specs.Share.{sharing, unsharing}
use Rattle.monitor.specs.Take.{taking}
use Rattle.monitor.specs.Destroy.{destroying}
use Rattle.monitor.specs.Invalidated.{invalidating}
use Rattle.script_language.specs.declared.Operation.{Operation}
use Rattle.script_language.specs.declared.Operation.TheVariants.{Create, Give, Map, Unmap, Share, Unshare, Take, Destroy, Invalidated}

abbrev pub operation : Operation → A.Operation
operation (Create g) = creating g
operation (Give f g) = giving f g
operation (Map f g a r) = mapping f g a r
operation (Unmap a g) = unmapping a g
operation (Share g f h w) = sharing g f h w
operation (Unshare g f h) = unsharing g f h
operation (Take f g) = taking f g
operation (Destroy g) = destroying g
operation (Invalidated g) = invalidating g
