use Rattle.engine_image.specs.OpenedImages.{contents_of}
use Rattle.engine_image.proofs.ByteNodes.{of_bytes}
use Rattle.engine_image.proofs.Engines.{makes_bytes, makes_consistent, makes_engine, makes_fault, makes_holding, opened_of}
use Rattle.engine_image.proofs.making.from_image.Goals as goal

pub open-requires : goal.open-requires
open-requires c = c.requires

pub checked_engine-requires : goal.checked_engine-requires
checked_engine-requires c = (contents_of c.args.image, opened_of c.args.image c.in-Ok.opened c.as_slice-2.result.now c.as_slice.result.now c.in-Ok.ensures.opened c.pages_are_bytes.ensures c.as_slice-2.ensures.value c.items_are_bytes.ensures c.as_slice.ensures.value)

pub returns-in-Ok-clause-engine : goal.returns-in-Ok-clause-engine
returns-in-Ok-clause-engine c =
    let image = contents_of c.args.image in
    let is = opened_of c.args.image c.in-Ok.opened c.as_slice-2.result.now c.as_slice.result.now c.in-Ok.ensures.opened c.pages_are_bytes.ensures c.as_slice-2.ensures.value c.items_are_bytes.ensures c.as_slice.ensures.value in
    makes_engine c.args.limit image c.checked_engine.result (c.checked_engine.ensures image is)

pub returns-in-Ok-clause-holds : goal.returns-in-Ok-clause-holds
returns-in-Ok-clause-holds c =
    let image = contents_of c.args.image in
    let is = opened_of c.args.image c.in-Ok.opened c.as_slice-2.result.now c.as_slice.result.now c.in-Ok.ensures.opened c.pages_are_bytes.ensures c.as_slice-2.ensures.value c.items_are_bytes.ensures c.as_slice.ensures.value in
    makes_holding c.an_engine_of_a_consistent_image_holds_its_state.ensures c.args.limit image c.checked_engine.result (of_bytes image is.nodes is.live) (c.checked_engine.ensures image is)

pub returns-in-Ok-clause-consistent : goal.returns-in-Ok-clause-consistent
returns-in-Ok-clause-consistent c =
    let image = contents_of c.args.image in
    let is = opened_of c.args.image c.in-Ok.opened c.as_slice-2.result.now c.as_slice.result.now c.in-Ok.ensures.opened c.pages_are_bytes.ensures c.as_slice-2.ensures.value c.items_are_bytes.ensures c.as_slice.ensures.value in
    makes_consistent c.args.limit image c.checked_engine.result (c.checked_engine.ensures image is)

pub returns-in-Ok-clause-bytes : goal.returns-in-Ok-clause-bytes
returns-in-Ok-clause-bytes c =
    let image = contents_of c.args.image in
    let is = opened_of c.args.image c.in-Ok.opened c.as_slice-2.result.now c.as_slice.result.now c.in-Ok.ensures.opened c.pages_are_bytes.ensures c.as_slice-2.ensures.value c.items_are_bytes.ensures c.as_slice.ensures.value in
    makes_bytes image c.checked_engine.result (of_bytes image is.nodes is.live)

pub returns-in-Ok-clause-fault : goal.returns-in-Ok-clause-fault
returns-in-Ok-clause-fault c =
    let image = contents_of c.args.image in
    let is = opened_of c.args.image c.in-Ok.opened c.as_slice-2.result.now c.as_slice.result.now c.in-Ok.ensures.opened c.pages_are_bytes.ensures c.as_slice-2.ensures.value c.items_are_bytes.ensures c.as_slice.ensures.value in
    makes_fault c.args.limit image c.checked_engine.result (c.checked_engine.ensures image is)

pub returns-in-Err-clause-fault : goal.returns-in-Err-clause-fault
returns-in-Err-clause-fault c = c.in-Err.ensures.fault
