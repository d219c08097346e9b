use Rattle.disk_mem.proofs.ScanLemmas.{IsScan-step, IsScan-all, synced-step}
use Rattle.disk_mem.proofs.scans.Scan.of.Goals as goal

pub loop-before-preserved : goal.loop-before-preserved
loop-before-preserved c = record {
  synced = synced-step c.args.touches.now c.loop-before.before _ c.loop-before.scan _ c.loop-before.invariant.synced c.with-scan.ensures;
  scan = λ pieces stored.
      IsScan-step c.args.first.now pieces c.args.touches.now c.loop-before.before _ c.loop-before.scan _ c.loop-before-test.true stored (c.loop-before.invariant.scan pieces stored) c.with-scan.ensures;
}

pub returns-clause-scan : goal.returns-clause-scan
returns-clause-scan c = λ pieces stored. IsScan-all c.args.first.now pieces c.args.touches.now c.loop-before.before _ c.loop-before-test.false (c.loop-before.invariant.scan pieces stored)
